use Rattle.std.proofs.Common.{◌≡◌, ◌++◌, ◌∷◌, [], ◌<◌, cond, List, None, length, length-append, reverse, map, position, string_bytes, arith, ap, sym, ◌∙◌}
use Rattle.std.specs.Prelude.{String}
use Rattle.std.specs.declared.alloc.Global.{Global}
use Rattle.indexmap.specs.IndexSet.{spare}
use Rattle.chf_core.specs.Operator.{number_in}
use Rattle.chf_core.specs.Named.{Named}
use Rattle.chf_core.specs.NamesKept.{is_name}
use Rattle.chf_core.proofs.NameLists.{seen_push, none_is, numbered_push}
use Rattle.chf_core.proofs.Results.{from_ok}
use Rattle.chf_core.proofs.names.Names.add.Goals as goal

-- the name has no number
unknown : (c : goal.Joined-insert) → number_in (reverse (map string_bytes c.self.inside.texts.keys)) (string_bytes c.args.name) ≡ None
unknown c = ap (λ (v : Named). number_in v.list (string_bytes c.args.name)) c.self.view_is ∙ c.requires.unknown

-- it comes last
pushed : (c : goal.Joined-insert) → c.insert.new.self.keys ≡ c.self.inside.texts.keys ++ c.args.name ∷ []
pushed c =
    let t = c.self.inside.texts in
    let seen : _ ≡ c.args.self.now.room = ap (λ (v : Named). v.room) c.self.view_is in
    let room : 0 < spare t = omega (arith, c.requires.room) in
    from_ok c.insert.result _ (c.insert.ensures.succeeds room) c.insert.ensures.keys
    ∙ ap (λ b. cond b t.keys (t.keys ++ c.args.name ∷ [])) (none_is (string_bytes c.args.name) t.keys (c.self.invariant.numbers (string_bytes c.args.name) ∙ unknown c))

pub invariant_of-self : goal.invariant_of-self
invariant_of-self c =
    let t = c.self.inside.texts.keys in
    let p = pushed c in
    record {
      numbers = λ n.
          ap (λ (l : List (String Global)). position (is_name n) l) p ∙ numbered_push t c.args.name c.self.invariant.numbers (unknown c) n
          ∙ sym (ap (λ (l : List (String Global)). number_in (reverse (map string_bytes l)) n) p);
      few =
          let seen : _ ≡ c.args.self.now.room = ap (λ (v : Named). v.room) c.self.view_is in
          let len = ap length p in let one = length-append t (c.args.name ∷ []) in omega (arith, c.requires.room, c.self.invariant.few);
    }

pub returns-clause-list : goal.returns-clause-list
returns-clause-list c =
    ap (λ (l : List (String Global)). reverse (map string_bytes l)) (pushed c) ∙ seen_push c.self.inside.texts.keys c.args.name
    ∙ ap (λ (v : Named). string_bytes c.args.name ∷ v.list) c.self.view_is
