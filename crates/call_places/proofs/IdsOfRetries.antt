-- The retries of an operation's call have one id: the one that was made for it.
use Rattle.std.proofs.Common.{◌≡◌, ℕ, ◌+◌, ◌*◌, ◌<◌, ◌≤◌, List, sym, ap, ◌∙◌, subst, arith}
use Rattle.std.proofs.lemmas.Nat.{div-add-mod'}
use Rattle.std.proofs.Math.Nat.{mod-lt}
use mathlib.Core.Logic.{dite}
use mathlib.Core.Option.{some, some-injective}
use native.Mathlib.Decide.{ℕ_discrete, dec_lt}
use lib.ListN.{get_elem?}
use Rattle.corr_core.specs.IdSlotWord.{parts}
use Rattle.corr_core.specs.IdSlotLaw.{is_made, is_attempt}
use Rattle.corr_core.specs.declared.marks.Kept.{Kept}
use Rattle.corr_core.specs.declared.marks.Note.{Note}
use Rattle.corr_core.specs.declared.marks.Note.TheVariants.{Made, Locker}
use Rattle.corr_core.specs.declared.marks.Noted.{Noted}
use Rattle.corr_core.specs.declared.marks.Plan as id_plan
use Rattle.corr_core.specs.declared.marks.View.{View}
use Rattle.corr_core.proofs.NoteSums.{only-at, only-else, pair-else, pair-else_first, total_some}
use Rattle.id_rule.specs.LawfulIdTable.{notes_of}
use Rattle.sock_message.specs.Asked.{Asked}
use Rattle.corr_id.specs.declared.calls.IdLock.{IdLock}
use Rattle.corr_id.specs.SeatBehindIdCalls.{is_saw}
use Rattle.corr_id.specs.ClosingIdLists.{Closing}
use Rattle.call_run.specs.call_client.specs.call_errors.specs.LockingByVersion.{GotBy}
use Rattle.call_places.specs.ClientNotesCounted.{makes}
use Rattle.call_places.proofs.NoteWeights.{term, two_terms, noted_at}
use Rattle.call_places.proofs.Still.{advances}
use Rattle.call_places.proofs.RetryAndIdCounts.{locks_for, KnowsLock}
use Rattle.sock_words.specs.PackedWords.{id_slot, id_first}
use Rattle.sock_words.specs.Totals.{total}

-- what is used of the closed table of ids
pub record IdLaws (slots : ℕ) (notes : List (Noted Asked)) : Type 0 where
  pub advanced_once : (i f n : ℕ) → i < slots → total (is_attempt f n) (notes_of i notes) ≤ 1
  pub advanced_made : (i f n : ℕ) → i < slots → 0 < total (is_attempt f n) (notes_of i notes) → 0 < total (is_made f) (notes_of i notes)
  pub locked_made : (i f k : ℕ) (c : Asked) → i < slots → get_elem? (notes_of i notes) k ≡ some (Locker f c) → (r j : ℕ) × (get_elem? (notes_of i notes) j ≡ some (Made f r c))
  pub range_is : (i w : ℕ) → i < slots → 0 < total (is_saw w) (notes_of i notes) → 0 < (parts w).state → (c : Asked) × (j : ℕ) × (get_elem? (notes_of i notes) j ≡ some (Made (parts w).first (parts w).range c))
  pub ranges_apart : (i f g r s j k : ℕ) (c d : Asked) → i < slots → get_elem? (notes_of i notes) j ≡ some (Made f r c) → get_elem? (notes_of i notes) k ≡ some (Made g s d) → f < g → f + r ≤ g

pub laws_of : (p : id_plan.Plan) (notes : List (Noted Asked)) (kept : List Kept) (words : List ℕ) → Closing p notes kept words → IdLaws p.slots notes
laws_of p notes kept words c = record { advanced_once = c.advanced_once; advanced_made = c.advanced_made; locked_made = c.locked_made; range_is = c.range_is; ranges_apart = c.ranges_apart }

-- ## Notes by their weights

pub locker_of : (f o : ℕ) (n : Note Asked) → 0 < locks_for f o n → (c : Asked) × (n ≡ Locker f c) × (c.operation ≡ o)
locker_of f o (Locker g c) h = dite (ℕ_discrete g f)
    (λ e. dite (ℕ_discrete c.operation o)
    (λ d. (c, ap (λ (x : ℕ). Locker x c) e, d))
    (λ n. let k = pair-else f o g c.operation n in absurd (omega arith)))
    (λ n. let k = pair-else_first f o g c.operation n in absurd (omega arith))
locker_of f o _ h = absurd (omega arith)

made_of : (f : ℕ) (n : Note Asked) → 0 < is_made f n → (r : ℕ) × (c : Asked) × (n ≡ Made f r c)
made_of f (Made g r c) h = dite (ℕ_discrete g f) (λ e. (r, c, ap (λ y. Made y r c) e)) (λ n. let k = only-else f g n in absurd (omega arith))
made_of f _ h = absurd (omega arith)

-- where they stand
pub locker_there : (f o : ℕ) (ns : List (Note Asked)) → 0 < total (locks_for f o) ns → (c : Asked) × (k : ℕ) × (get_elem? ns k ≡ some (Locker f c)) × (c.operation ≡ o)
locker_there f o ns some_ = let l = total_some (locks_for f o) ns some_ in let n = locker_of f o l.1 l.3 in (n.0, l.0, l.2 ∙ ap some n.1, n.2)

made_there : (f : ℕ) (ns : List (Note Asked)) → 0 < total (is_made f) ns → (r : ℕ) × (c : Asked) × (k : ℕ) × (get_elem? ns k ≡ some (Made f r c))
made_there f ns some_ = let m = total_some (is_made f) ns some_ in let n = made_of f m.1 m.3 in (n.0, n.1, m.0, m.2 ∙ ap some n.2)

-- the first version of a range that was made
first_of : Note Asked → ℕ
first_of (Made f r c) = f
first_of _ = 0

-- ## Ids

-- the id is that of a call of this operation
pub record IsIdOf (slots : ℕ) (notes : List (Noted Asked)) (o id : ℕ) : Type 0 where
  pub slot : ℕ
  pub first : ℕ
  pub inside : slot < slots
  pub low : first < 4294967296
  pub id_is : id ≡ slot * 4294967296 + first
  pub range : ℕ
  pub asked : Asked
  pub place : ℕ
  pub made : get_elem? (notes_of slot notes) place ≡ some (Made first range asked)
  pub operation : asked.operation ≡ o

-- so an id was made for that operation
pub some_made : {slots : ℕ} {notes : List (Noted Asked)} (o id : ℕ) → IsIdOf slots notes o id → 0 < total (makes o) notes
some_made {slots} {notes} o id h =
    let n = noted_at h.slot notes h.place (Made h.first h.range h.asked) h.made in
    let a = term (makes o) notes n.0 _ n.1 in let b = only-at o h.asked.operation h.operation in omega (arith, a, b)

pub version_low : (id : ℕ) → id_first id < 4294967296
version_low id = let some_ : 0 < 4294967296 = omega arith in mod-lt id some_

-- an id by its slot and its first version
pub id_parts : (id slot first : ℕ) → id ≡ slot * 4294967296 + first → first < 4294967296 → (id_slot id ≡ slot) × (id_first id ≡ first)
id_parts id slot first e low = (omega (arith, e, low), omega (arith, e, low))

module _ {slots : ℕ} {notes : List (Noted Asked)} (laws : IdLaws slots notes) where
  -- of the range with which it was locked by this id, which was advanced
  pub lock_id : (id n : ℕ) (k : IdLock Asked) (u v w : View Asked) → GotBy slots id k u w → KnowsLock k v → ((i : ℕ) (f : Note Asked → ℕ) → total f (notes_of i v.notes) ≤ total f (notes_of i notes)) → 0 < advances (id_slot id) (id_first id) n v
      → IsIdOf slots notes k.content.operation id
  lock_id id n k u v w got knows among advanced =
      let i : ℕ = k.slot in let f : ℕ = (parts k.word.0).first in let f0 : ℕ = id_first id in let o : ℕ = k.content.operation in
      let seen : 0 < total (is_saw knows.word) (notes_of i notes) = (let a = knows.found in let b = among i (is_saw knows.word) in omega arith) in
      let one = laws.range_is i knows.word got.inside seen (let a = knows.was_open in omega arith) in
      let locked : 0 < total (locks_for f o) (notes_of i notes) = (let a = knows.locked in let b = among i (locks_for f o) in omega arith) in
      let l = locker_there f o (notes_of i notes) locked in
      let two = laws.locked_made i f l.1 l.0 got.inside l.2 in
      let here : 0 < total (is_attempt f0 n) (notes_of i notes) =
      (let a : 0 < total (is_attempt f0 n) (notes_of i v.notes) = subst (λ (j : ℕ). 0 < total (is_attempt f0 n) (notes_of j v.notes)) (sym got.slot_is) advanced in let b = among i (is_attempt f0 n) in omega arith) in
      let m = made_there f0 (notes_of i notes) (laws.advanced_made i f0 n got.inside here) in
      let low : f0 < 4294967296 = version_low id in
      let same : f ≡ f0 = dite (dec_lt f f0)
      (λ lt. absurd (let a = laws.ranges_apart i (parts knows.word).first f0 (parts knows.word).range m.0 one.1 m.2 one.0 m.1 got.inside one.2 m.3 (let e = knows.first_is in omega arith) in
      let b = got.to_last in let c = knows.first_is in let d = knows.range_is in omega arith))
      (λ ge. let b = got.from_first in omega arith) in
      record {
        slot = i;
        first = f;
        inside = got.inside;
        low = omega (arith, same, low);
        id_is = (let a = div-add-mod' id 4294967296 in let b = got.slot_is in omega (arith, a, b, same));
        range = two.0;
        asked = l.0;
        place = two.1;
        made = two.2;
        operation = l.3;
      }

-- two ids of one operation are the same, where one was made for it at most
pub one_id : (slots : ℕ) (notes : List (Noted Asked)) (o id id' : ℕ) → total (makes o) notes ≤ 1 → IsIdOf slots notes o id → IsIdOf slots notes o id' → id ≡ id'
unfolding first_of
one_id slots notes o id id' once a b =
    let x = noted_at a.slot notes a.place (Made a.first a.range a.asked) a.made in
    let y = noted_at b.slot notes b.place (Made b.first b.range b.asked) b.made in
    dite (ℕ_discrete x.0 y.0)
    (λ e. let same = some-injective _ _ (sym x.1 ∙ (ap (get_elem? notes) e ∙ y.1)) in
    let slot : a.slot ≡ b.slot = ap (λ (n : Noted Asked). n.slot) same in
    let first : a.first ≡ b.first = ap (λ (n : Noted Asked). first_of n.note) same in
    a.id_is ∙ ((λ z. slot z * 4294967296 + first z) ∙ sym b.id_is))
    (λ n. absurd (let c = two_terms (makes o) notes x.0 y.0 _ _ x.1 y.1 n in let d = only-at o a.asked.operation a.operation in let e = only-at o b.asked.operation b.operation in omega arith))
