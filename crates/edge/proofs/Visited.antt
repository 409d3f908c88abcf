-- What a read and a write make of a visit's connection.
use Rattle.std.proofs.Common.{◌≡◌, ℕ, ◌+◌, ◌-◌, ◌≤◌, Bool, true, false, not, ◌||◌, List, [], ◌∷◌, ◌++◌, Some, take, drop, length, map, Option, refl, sym, ◌∙◌, ap, subst, arith, length-drop, length-append}
use Rattle.std.proofs.Math.Seq.{take-add}
use Rattle.std.proofs.lemmas.List.{take-append-le, drop-append-le, take_all}
use Rattle.std.proofs.lemmas.List.Elements.{All-head, All-push, All-tail}
use Rattle.std.specs.Prelude.{All, reverse}
use Rattle.edge.proofs.FromMemory.{drop-add}
use Rattle.std.specs.Io.KnownBytes.{Appends}
use Rattle.edge.specs.Connections.{Connection, after_read, after_write, written_of}
use Rattle.edge.specs.Openings.{HasOpened}
use Rattle.edge.specs.Visits.{IsPresent, IsPresentIn, IsVisit, MemoryStreams, after_opening, connection_of, is_none}
use Rattle.edge.specs.declared.memory_streams.Visit.{Visit}

or_false : (b : Bool) → (b || false) ≡ b
or_false true = refl
or_false false = refl

pub read_more : (all : List ℕ) (v : Visit) (n : ℕ) (given : List ℕ) → given ≡ take n (drop v.at v.bytes) → n ≡ length given
    → connection_of all (record v { at = v.at + n }) ∷ [] ≡ after_read given false (connection_of all v ∷ [])
read_more all v n given is count =
    let read = take-add v.at n v.bytes ∙ ap (λ xs. take v.at v.bytes ++ xs) (sym is) in
    let left = drop-add v.at n v.bytes ∙ ap (λ k. drop k (drop v.at v.bytes)) count in
    λ i. record (connection_of all v) { read = read i; left = left i; read_failed = sym (or_false v.read_failed) i } ∷ []

-- a part of what was written stays as more is written
part_stays : (all more : List ℕ) (start size : ℕ) → start + size ≤ length all → take size (drop start (all ++ more)) ≡ take size (drop start all)
part_stays all more start size within =
    ap (λ xs. take size xs) (drop-append-le start all more (omega arith)) ∙ take-append-le size (drop start all) more (omega (arith, length-drop start all))

-- and the last part grows
part_grows : (all more : List ℕ) (start to : ℕ) → start ≤ to → to ≡ length all
    → take (to + length more - start) (drop start (all ++ more)) ≡ take (to - start) (drop start all) ++ more
part_grows all more start to part last =
    ap (λ xs. take (to + length more - start) xs) (drop-append-le start all more (omega arith))
    ∙ take_all _ _ (omega (arith, length-append (drop start all) more, length-drop start all))
    ∙ ap (λ xs. xs ++ more) (sym (take_all (to - start) (drop start all) (omega (arith, length-drop start all))))

earlier_stay : (all more : List ℕ) (earlier : List Visit) → All (IsVisit (length all)) earlier → map (connection_of (all ++ more)) earlier ≡ map (connection_of all) earlier
earlier_stay all more [] h = refl
earlier_stay all more (v ∷ vs) h =
    let here = All-head (IsVisit (length all)) v vs h in
    let part = part_stays all more v.«from» (v.to - v.«from») (omega (arith, here.part, here.within)) in
    let rest = earlier_stay all more vs (All-tail (IsVisit (length all)) v vs h) in
    λ i. record (connection_of all v) { written = part i } ∷ rest i

pub written_more : (all more : List ℕ) (n : ℕ) (v : Visit) (earlier : List Visit) → IsPresent (length all) v → All (IsVisit (length all)) earlier → n ≡ length more
    → connection_of (all ++ more) (record v { to = v.to + n }) ∷ reverse (map (connection_of (all ++ more)) earlier) ≡ after_write more false (connection_of all v ∷ reverse (map (connection_of all) earlier))
written_more all more n v earlier present visits count =
    let part = ap (λ k. take (v.to + k - v.«from») (drop v.«from» (all ++ more))) count ∙ part_grows all more v.«from» v.to present.part present.last in
    let rest = ap reverse (earlier_stay all more earlier visits) in
    λ i. record (connection_of all v) { written = part i; write_failed = sym (or_false v.write_failed) i } ∷ rest i

-- a write to the present connection adds to what it wrote
pub written_after : (taken : List ℕ) (failed : Bool) (connections now : List Connection) → now ≡ after_write taken failed connections → Appends (written_of connections) (written_of now) taken
written_after taken failed [] now is = tt
written_after taken failed (present ∷ earlier) now is = subst (λ (cs : List Connection). Appends (Some present.written) (written_of cs) taken) (sym is) refl

-- opening the next connection
pub opening : (peer : List ℕ) (to_come : List (List ℕ)) (before now : MemoryStreams) → now ≡ after_opening peer to_come before → not (is_none to_come) ≡ true → HasOpened peer (Some before.connections) (Some now.connections)
opening peer [] before now after came = cc
opening peer (bytes ∷ more) before now after came = (bytes, ap (λ (s : MemoryStreams). Some s.connections) after)

-- the present visit goes to the earlier ones
pub kept : (n : ℕ) (is_open : Bool) (earlier : List Visit) (visit : Visit) (present : Option Visit) → present ≡ Some visit → IsPresentIn n is_open earlier present → All (IsVisit n) earlier → All (IsVisit n) (earlier ++ visit ∷ [])
kept n is_open earlier visit present is wrote visits =
    let last : IsPresent n visit = subst (λ (o : Option Visit). IsPresentIn n is_open earlier o) is wrote in
    All-push (IsVisit n) earlier visit visits (record { at = last.at; part = last.part; within = omega (arith, last.last) })
