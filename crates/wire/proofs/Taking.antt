-- One read more: what is added to the bytes held, and what is taken of the source.
use Rattle.std.proofs.Common.{◌≡◌, ℕ, ◌+◌, ◌-◌, ◌≤◌, Bool, true, false, ◌||◌, List, [], ◌∷◌, ◌++◌, take, drop, length, Option, None, Some, Result, Ok, option_map, nat_lt, ⊎_elim, arith, refl, sym, ◌∙◌, ap, append_assoc, length-append}
use Rattle.std.proofs.lemmas.List.{append-nil, drop-drop}
use Rattle.std.proofs.lemmas.Bool.{cases_lt, lt-ltb}
use Rattle.std.specs.Io.KnownBytes.{Consumes, Keeps}
use Rattle.edge.specs.Connections.{Connection, after_read}
use Rattle.wire.specs.Held.{HasTaken}
use Rattle.wire.proofs.Views.{grown, between}

pub consumes_none : (a b : Option (List ℕ)) → Keeps a b → Consumes a b []
consumes_none None b h = tt
consumes_none (Some x) None h = h
consumes_none (Some x) (Some y) h = sym h

pub consumes_then : (a b c : Option (List ℕ)) (xs ys : List ℕ) → Consumes a b xs → Consumes b c ys → Consumes a c (xs ++ ys)
consumes_then None b c xs ys h k = tt
consumes_then (Some x) None c xs ys h k = absurd h
consumes_then (Some x) (Some y) None xs ys h k = absurd k
consumes_then (Some x) (Some y) (Some z) xs ys h k = h ∙ ap (λ l. xs ++ l) k ∙ sym (append_assoc xs ys z)

or_false : (b : Bool) → (b || false) ≡ b
or_false true = refl
or_false false = refl

read_nothing : (all : List Connection) → all ≡ after_read [] false all
read_nothing [] = refl
read_nothing (present ∷ earlier) = λ i. record present { read = sym (append-nil present.read) i; read_failed = sym (or_false present.read_failed) i } ∷ earlier

read_more : (xs ys : List ℕ) (failed : Bool) (all : List Connection) → after_read ys failed (after_read xs false all) ≡ after_read (xs ++ ys) failed all
read_more xs ys failed [] = refl
read_more xs ys failed (present ∷ earlier) =
    let rest : drop (length (xs ++ ys)) present.left ≡ drop (length ys) (drop (length xs) present.left) = ap (λ n. drop n present.left) (length-append xs ys) ∙ sym (drop-drop (length ys) (length xs) present.left) in
    λ i. record present { read = append_assoc present.read xs ys i; left = sym rest i; read_failed = ap (λ b. b || failed) (or_false present.read_failed) i } ∷ earlier

pub connections_then : (a b c : Option (List Connection)) (xs ys : List ℕ) (failed : Bool) → b ≡ option_map (after_read xs false) a → c ≡ option_map (after_read ys failed) b → c ≡ option_map (after_read (xs ++ ys) failed) a
connections_then None b c xs ys failed h k = k ∙ ap (option_map (after_read ys failed)) h
connections_then (Some a) b c xs ys failed h k = k ∙ ap (option_map (after_read ys failed)) h ∙ ap Some (read_more xs ys failed a)

pub connections_none : (told : Option (List Connection)) → told ≡ option_map (after_read [] false) told
connections_none None = refl
connections_none (Some all) = ap Some (read_nothing all)

pub keeps_itself : (a : Option (List ℕ)) → Keeps a a
keeps_itself None = tt
keeps_itself (Some x) = refl

-- nothing was taken yet
abbrev pub took_none : (held : List ℕ) (left : Option (List ℕ)) (all : Option (List Connection)) → HasTaken false held held left left all all
took_none held left all = record { taken = []; source = consumes_none left left (keeps_itself left); connections = connections_none all; had = sym (append-nil held) }

-- a read after those before it
abbrev pub took_then : (old now after : List ℕ) (failed : Bool) (left left_now left_after : Option (List ℕ)) (all all_now all_after : Option (List Connection))
    → HasTaken false old now left left_now all all_now → HasTaken failed now after left_now left_after all_now all_after → HasTaken failed old after left left_after all all_after
took_then old now after failed left left_now left_after all all_now all_after h k = record {
  taken = h.taken ++ k.taken;
  source = consumes_then left left_now left_after h.taken k.taken h.source k.source;
  connections = connections_then all all_now all_after h.taken k.taken failed h.connections k.connections;
  had = k.had ∙ ap (λ b. b ++ k.taken) h.had ∙ append_assoc old h.taken k.taken;
}

-- a read that put bytes behind those between two places
pub took_count : (held old now : List ℕ) (from to count : ℕ) (left left_now : Option (List ℕ)) (all all_now : Option (List Connection)) → take (to - from) (drop from old) ≡ held → from ≤ to → to + count ≤ length now
    → take to now ≡ take to old → Consumes left left_now (take count (drop to now)) → all_now ≡ option_map (after_read (take count (drop to now)) false) all
    → HasTaken false held (take (to + count - from) (drop from now)) left left_now all all_now
took_count held old now from to count left left_now all all_now view le fits same consumed connections = record {
  taken = take count (drop to now);
  source = consumed;
  connections = connections;
  had = grown old now from to count le fits same ∙ ap (λ h. h ++ take count (drop to now)) view;
}

-- a read that failed
pub took_failed : (failed : Bool) (held old now : List ℕ) (from to : ℕ) (left left_now : Option (List ℕ)) (all all_now : Option (List Connection)) → failed ≡ true → take (to - from) (drop from old) ≡ held → from ≤ to
    → take to now ≡ take to old → Keeps left left_now → all_now ≡ option_map (after_read [] true) all → HasTaken failed held (take (to - from) (drop from now)) left left_now all all_now
took_failed failed held old now from to left left_now all all_now is view le same keeps connections = record {
  taken = [];
  source = consumes_none left left_now keeps;
  connections = connections ∙ ap (λ b. option_map (after_read [] b) all) (sym is);
  had = between old now from to le same ∙ view ∙ sym (append-nil held);
}

-- a read that answers that nothing came
pub none_came : {E : Type 0} (count : ℕ) → (◌≡◌ {A = Result Bool E} (Ok (nat_lt 0 count)) (Ok true) → ⊥) → count ≡ 0
none_came count none = ⊎_elim (λ some. absurd (none (ap Ok (lt-ltb 0 count some)))) (λ le. omega arith) (cases_lt 0 count)
