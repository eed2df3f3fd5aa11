-- No two calls have a version in common.
use Rattle.std.proofs.Common.{◌≡◌, ◌≢◌, ◌⊎◌, inl, inr, ℕ, ◌+◌, ◌*◌, ◌<◌, ◌≤◌, List, Option, Some, sym, ap, ◌∙◌, subst, arith}
use mathlib.Core.Logic.{dite}
use mathlib.Core.Option.{some, some-injective}
use native.Mathlib.Decide.{ℕ_discrete, dec_lt}
use lib.ListN.{get_elem?}
use Rattle.std.specs.Prelude.{slice_index}
use Rattle.std.proofs.lemmas.Option.{same_Some}
use Rattle.sock_words.specs.declared.outcome.Outcome.{Outcome}
use Rattle.sock_words.specs.declared.outcome.Outcome.TheVariants.{Answered, Peer, CallFailed}
use Rattle.brpc_model.specs.MessageOfLabel.{shown_id}
use Rattle.seat_programs.specs.declared.task.Op.TheVariants as ops
use Rattle.seat_programs.specs.declared.task.Task.{Task}
use Rattle.seat_programs.specs.Explained.{IsTask, Became}
use Rattle.corr_core.specs.IdSlotLaw.{is_made, is_ended}
use Rattle.corr_core.specs.IdSlotWord.{parts}
use Rattle.corr_core.specs.declared.marks.Kept.{Kept}
use Rattle.corr_core.specs.declared.marks.Note.{Note}
use Rattle.corr_core.specs.declared.marks.Note.TheVariants.{Made}
use Rattle.corr_core.specs.declared.marks.Noted.{Noted}
use Rattle.corr_core.specs.declared.marks.Plan.{Plan}
use Rattle.corr_core.proofs.NoteSums.{only-at}
use Rattle.id_rule.specs.LawfulIdTable.{notes_of}
use Rattle.corr_id.specs.ClosingIdLists.{Closing}
use Rattle.sock_message.specs.Asked.{Asked}
use Rattle.expire_told.specs.call_told.specs.ToldOnce.{ends_of}
use Rattle.expire_told.specs.call_places.proofs.NoteWeights.{two_terms}
use Rattle.sock_words.specs.Totals.{total}

content_of : Note Asked → Asked → Asked
content_of (Made f r asked) other = asked
content_of n other = other

same_content : (f g r s : ℕ) (a b : Asked) → Made f r a ≡ Made g s b → a ≡ b
unfolding content_of
same_content f g r s a b e = ap (λ (n : Note Asked). content_of n a) e

same_range : (a b : Asked) → ops.Call a ≡ ops.Call b → a.range ≡ b.range
same_range a b e = cc

-- an id that is shown is that of a call that ended
pub shown_end : (by : Outcome) (id : ℕ) → shown_id by ≡ Some id → 0 < ends_of id by
shown_end (Answered i payload attachment) id e = let a = only-at id i (same_Some i id e) in omega arith
shown_end (Peer i code) id e = let a = only-at id i (same_Some i id e) in omega arith
shown_end (CallFailed i code) id e = let a = only-at id i (same_Some i id e) in omega arith
shown_end other id e = absurd (cc)

-- over the closed table of ids
module _ (q : Plan) (notes : List (Noted Asked)) (kept : List Kept) (words : List ℕ) (closing : Closing q notes kept words) where
  -- an id was made for this operation with this first version
  pub record IsMadeFor (operation slot first : ℕ) : Type 0 where
    pub range : ℕ
    pub asked : Asked
    pub place : ℕ
    pub made : get_elem? (notes_of slot notes) place ≡ some (Made first range asked)
    pub operation_is : asked.operation ≡ operation

  -- this one was, and has ended
  pub record IsIdFor (operation id : ℕ) : Type 0 where
    pub slot : ℕ
    pub first : ℕ
    pub inside : slot < q.slots
    pub id_is : id ≡ slot * 4294967296 + first
    pub made : IsMadeFor operation slot first
    pub ended : 0 < total (is_ended first) (notes_of slot notes)

  -- two that were made with one first version in one slot are one
  one_made : (o o' slot first : ℕ) → slot < q.slots → IsMadeFor o slot first → IsMadeFor o' slot first → o ≡ o'
  one_made o o' slot first inside a b = dite (ℕ_discrete a.place b.place)
      (λ same. (
      let e = some-injective (Made first a.range a.asked) (Made first b.range b.asked) (sym a.made ∙ (ap (get_elem? (notes_of slot notes)) same ∙ b.made)) in
      sym a.operation_is ∙ (ap (λ (x : Asked). x.operation) (same_content first first a.range b.range a.asked b.asked e) ∙ b.operation_is)))
      (λ ne. absurd (
      let once = closing.made_once slot first inside in
      let two = two_terms (is_made first) (notes_of slot notes) a.place b.place (Made first a.range a.asked) (Made first b.range b.asked) a.made b.made ne in
      let one = only-at first first in omega arith))

  -- each range that was made for this operation has n versions
  abbrev pub HasRange : ℕ → ℕ → Type 0
  HasRange operation n = (i j f r : ℕ) (asked : Asked) → i < q.slots → get_elem? (notes_of i notes) j ≡ some (Made f r asked) → asked.operation ≡ operation → r ≡ n

  -- the last words have 64 bits
  abbrev pub AreWords : Type 0
  AreWords = (i : ℕ) → i < q.slots → slice_index words i < 18446744073709551616

  -- so a first version that has ended has 26
  low_first : AreWords → (operation id : ℕ) (a : IsIdFor operation id) → a.first < 67108864
  low_first low operation id a =
      let w = low a.slot a.inside in
      let e = a.ended in
      dite (dec_lt a.first (parts (slice_index words a.slot)).first)
      (λ lt. omega arith)
      (λ ge. absurd (let none_ = closing.ended_not a.slot a.first a.inside (omega arith) in omega arith))

  module _ (low : AreWords) (o o' id id' n n' : ℕ) (a : IsIdFor o id) (b : IsIdFor o' id') (has : HasRange o n) (has' : HasRange o' n') (few : n ≤ 8) (few' : n' ≤ 8) (other : o ≢ o') where
    abbrev Apart : Type 0
    Apart = (id + n ≤ id') ⊎ (id' + n' ≤ id)

    in_one : a.slot ≡ b.slot → Apart
    in_one same =
        let m = a.made in
        let k = subst (λ s. IsMadeFor o' s b.first) (sym same) b.made in
        let rx = has a.slot m.place a.first m.range m.asked a.inside m.made m.operation_is in
        let ry = has' a.slot k.place b.first k.range k.asked a.inside k.made k.operation_is in
        let ia = a.id_is in
        let ib = b.id_is in
        dite (dec_lt a.first b.first)
        (λ lt. inl (let r = closing.ranges_apart a.slot a.first b.first m.range k.range m.place k.place m.asked k.asked a.inside m.made k.made lt in omega arith))
        (λ ge. dite (dec_lt b.first a.first)
        (λ lt. inr (let r = closing.ranges_apart a.slot b.first a.first k.range m.range k.place m.place k.asked m.asked a.inside k.made m.made lt in omega arith))
        (λ le. absurd (let first : b.first ≡ a.first = omega arith in other (one_made o o' a.slot a.first a.inside m (subst (λ f. IsMadeFor o' a.slot f) first k)))))

    in_two : a.slot ≢ b.slot → Apart
    in_two ne =
        let la = low_first low o id a in
        let lb = low_first low o' id' b in
        let ia = a.id_is in
        let ib = b.id_is in
        dite (dec_lt a.slot b.slot) (λ lt. inl (omega arith)) (λ ge. inr (omega arith))

    pub versions_apart : Apart
    versions_apart = dite (ℕ_discrete a.slot b.slot) in_one in_two

  -- ## Of tasks

  -- each end of a call is told of the operation for which its id was made, and each id was made for a call of one of the clients, with as many versions as that asks for
  pub record AreIds (clients : List (List Task)) (outcomes : List (Option Outcome)) : Type 0 where
    pub ends : (o : ℕ) (by : Outcome) → Became clients outcomes o by → (id : ℕ) → 0 < ends_of id by → IsIdFor o id
    pub made : (i j f r : ℕ) (asked : Asked) → i < q.slots → get_elem? (notes_of i notes) j ≡ some (Made f r asked) → (c : ℕ) × IsTask clients outcomes c record { number = asked.operation; op = ops.Call asked } × (r ≡ asked.range)
    -- a number is one task's
    pub one : (c d : ℕ) (t u : Task) → IsTask clients outcomes c t → IsTask clients outcomes d u → t.number ≡ u.number → t ≡ u
    pub short : (c : ℕ) (t : Task) (asked : Asked) → IsTask clients outcomes c t → t.op ≡ ops.Call asked → asked.range ≤ 8

  module _ (low : AreWords) (clients : List (List Task)) (outcomes : List (Option Outcome)) (ids : AreIds clients outcomes) where
    has_range : (c : ℕ) (t : Task) (a : Asked) → IsTask clients outcomes c t → t.op ≡ ops.Call a → HasRange t.number a.range
    has_range c t a is op i j f r asked inside at same =
        let m = ids.made i j f r asked inside at in
        let e : record { number = asked.operation; op = ops.Call asked } ≡ t = ids.one m.0 c record { number = asked.operation; op = ops.Call asked } t m.1 is same in
        m.2 ∙ same_range asked a (ap (λ (u : Task). u.op) e ∙ op)

    -- no two calls have a version in common
    pub versions : (c d : ℕ) (t u : Task) (a b : Asked) (x y : Outcome) (i j : ℕ) → IsTask clients outcomes c t → IsTask clients outcomes d u → t.op ≡ ops.Call a → u.op ≡ ops.Call b → Became clients outcomes t.number x → Became clients outcomes u.number y → shown_id x ≡ Some i → shown_id y ≡ Some j → t.number ≢ u.number → (i + a.range ≤ j) ⊎ (j + b.range ≤ i)
    versions c d t u a b x y i j is also op op' came came' shown shown' other =
        versions_apart low t.number u.number i j a.range b.range (ids.ends t.number x came i (shown_end x i shown)) (ids.ends u.number y came' j (shown_end y j shown')) (has_range c t a is op) (has_range d u b also op') (ids.short c t a is op) (ids.short d u b also op') other
