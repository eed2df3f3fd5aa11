-- What has come of each operation that a client made: its outcome is told, its call has begun, or it is a message that was accepted.
use Rattle.std.proofs.Common.{◌≡◌, ℕ, zero, suc, ◌<◌, false, List, [], ◌++◌, append-nil, Some, None, refl, sym, ap, ◌∙◌, subst, arith}
use Rattle.std.specs.Prelude.{Option as Maybe}
use Rattle.std.specs.List.{AllByRecursion}
use mathlib.Core.Logic.{dite}
use mathlib.Core.Option.{some, some-injective}
use native.Mathlib.Decide.{ℕ_discrete}
use lib.ListN.{get_elem?}
use Rattle.sock_io.specs.declared.link.Out.{Ghosts}
use Rattle.sock_io.specs.LinkHalves.{OutState}
use Rattle.sock_words.specs.declared.plain.Plan.{Plan}
use Rattle.sock_words.specs.declared.outcome.Outcome.{Outcome}
use Rattle.seat_programs.specs.declared.task.Op.{Op}
use Rattle.seat_programs.specs.declared.task.Op.TheVariants as ops
use Rattle.seat_programs.specs.declared.task.Task.{Task}
use Rattle.corr_core.specs.declared.marks.Note.TheVariants.{Made as made_note}
use Rattle.corr_core.specs.declared.marks.Plan as id_plan
use Rattle.corr_core.specs.declared.marks.View.{View}
use Rattle.corr_core.proofs.NoteSums.{pair-same, at_length}
use Rattle.id_rule.specs.LawfulIdTable.{call_index, notes_of, is_stored}
use Rattle.sock_message.specs.Asked.{Asked}
use Rattle.corr_id.specs.SeatBehindIdCalls.{one}
use Rattle.call_deeds.specs.Below.RpcClient.Told.{Told}
use Rattle.call_deeds.specs.Below.RpcClient.ToldOfOperation.{telling}
use Rattle.call_deeds.specs.Below.CallAttempts.ClientAtBothTables.{Both}
use Rattle.call_deeds.specs.Below.CallAttempts.CalledVariants as called
use Rattle.call_deeds.specs.Below.CallAttempts.CallBeginning.{CalledBy}
use Rattle.call_deeds.specs.Below.CallClient.Caller.{Caller}
use Rattle.call_deeds.specs.Below.CallClient.ClientBetweenOperations.{Stand, stand, both_of, Acted}
use Rattle.call_deeds.specs.Below.CallClient.ClientRun.{Course, Made, Ran, begins, RunBy}
use Rattle.call_deeds.specs.Below.CallClient.EndedCallsTelling.{did_total}
use Rattle.call_deeds.specs.call_places.specs.sock_deeds.proofs.Flats.{append_first}
use Rattle.call_told.specs.Least.{is_made_for, HasBegun}
use Rattle.call_told.proofs.ToldCallEnds.{made_silent, counted_here}
use Rattle.call_told.proofs.GrowingCallNotes.{Grows}
use Rattle.call_told.proofs.ListElementsByPlace.{all_at, last_there}
use Rattle.call_told.proofs.ClientTellingMoves.{attempted_by, Fits, made_moves, end_moves}
use Rattle.sock_words.specs.PackedWords.{id_slot, id_first}
use Rattle.sock_words.specs.Totals.{total}

-- of an operation, by what the client told of its own and what its seat of the ids knows
pub data HasCome (q : id_plan.Plan) (x : Task) (told : List Told) (v : View Asked) : Type 0 where
  tells : (i : ℕ) (t : Told) → get_elem? told i ≡ some t → t.number ≡ x.number → HasCome q x told v
  began : (asked : Asked) (id : ℕ) → x.op ≡ ops.Call asked → HasBegun q asked.operation id v → HasCome q x told v
  sends : (n : ℕ) (bytes : List ℕ) → x.op ≡ ops.Send n bytes → HasCome q x told v

module _ (q : id_plan.Plan) where
  -- a call that began has begun
  pub begun_later : (x n operation id : ℕ) (v w : View Asked) → Grows x n v w → HasBegun q operation id v → HasBegun q operation id w
  begun_later x n operation id v w g h = record {
    inside = h.inside;
    made = (let a = g.notes (id_slot id) (is_made_for (id_first id) operation) in let b = h.made in omega arith);
    stored = (let a = g.kept (is_stored (call_index q operation) id) in let b = h.stored in omega arith);
  }

  come_later : (y n : ℕ) (x : Task) (told more : List Told) (v w : View Asked) → Grows y n v w → HasCome q x told v → HasCome q x (told ++ more) w
  come_later y n x told more v w g (tells i t e is) = tells i t (append_first told more i t e) is
  come_later y n x told more v w g (began asked id is h) = began asked id is (begun_later y n asked.operation id v w g h)
  come_later y n x told more v w g (sends m bytes is) = sends m bytes is

  told_one : (number : ℕ) (x : Task) (by : Outcome) (old new : List Told) (v : View Asked) → number ≡ x.number → new ≡ old ++ telling number (Some by) → HasCome q x new v
  told_one number x by old new v e is =
      let t : Told = record { number = number; outcome = by } in let r = last_there old t in
      tells r.0 t (ap (λ (l : List Told). get_elem? l r.0) is ∙ r.1) e

  module _ {O : Type 0} (state : O → OutState) (p : Plan) where
    -- the id of a call is made and noted
    pub made_begun : (asked : Asked) (id : ℕ) (s t : Both) → CalledBy state p q asked (called.Begun id) s t → HasBegun q asked.operation id t.calls.view
    made_begun asked id s t h =
        let m = h.made_for in let u = h.at.calls.view in let o = asked.operation in let slot = id_slot id in let f = id_first id in
        let notes = did_total (is_made_for f o) (made_silent f o) slot s.calls.view m.view _ (one slot (made_note f asked.range asked)) m.made.did slot in
        let here = counted_here (is_made_for f o) slot (made_note f asked.range asked) in let one_ = pair-same f o in
        let noted = ap (λ (y : View Asked). total (is_made_for f o) (notes_of slot y.notes)) m.noted in
        let kept = ap (λ (y : View Asked). total (is_stored (call_index q o) id) y.kept) m.noted in let here' = pair-same (call_index q o) id in
        let begun : HasBegun q o id u = record { inside = m.made.inside; made = omega arith; stored = omega arith } in
        begun_later (call_index q 0) 0 o id u t.calls.view (attempted_by q 0 state p h.socket _ h.at t h.attempted).grows begun

    module _ {g : Ghosts O} where
      acted_come : (x : Task) (op : Op) → x.op ≡ op → (by : Maybe Outcome) (s t : Stand g) (old new : List Told) → Acted state p q x.number op by s t → new ≡ old ++ telling x.number by → HasCome q x new t.calls.view
      acted_come x op is (Some by) s t old new h e = told_one x.number x by old new t.calls.view refl e
      acted_come x (ops.Send n bytes) is None s t old new h e = sends n bytes is
      acted_come x (ops.Call asked) is None s t old new h e = began asked h.0 is (made_begun asked h.0 (both_of s) (both_of t) h.1)
      acted_come x _ is None s t old new h e = elim h [ ]

      one_come : (x : Task) (s t : Course g) → Made state p q x s t → HasCome q x t.told t.has.calls.view
      one_come x s t m = acted_come x x.op refl m.by m.ready t.has s.told t.told m.acted m.told

      ran_come : (xs : List Task) → AllByRecursion Fits xs → (n : ℕ) (s t : Course g) → Ran state p q xs n s t → (j : ℕ) (x : Task) → j < n → get_elem? xs j ≡ some x → HasCome q x t.told t.has.calls.view
      ran_come xs fits zero s t h j x less at = absurd (omega arith)
      ran_come xs fits (suc n) s t h j x less at = dite (ℕ_discrete j n)
          (λ e. let same : h.1 ≡ x = some-injective h.1 x (sym h.3 ∙ (ap (get_elem? xs) (sym e) ∙ at)) in subst (λ (y : Task). HasCome q y t.told t.has.calls.view) same (one_come h.1 h.0 t h.4))
          (λ ne. let c = ran_come xs fits n s h.0 h.2 j x (omega arith) at in let m = made_moves q 0 state p h.1 h.0 t (all_at Fits xs n h.1 fits h.3) h.4 in
          subst (λ (l : List Told). HasCome q x l t.has.calls.view) (sym h.4.told) (come_later (call_index q 0) _ x h.0.told (telling h.1.number h.4.by) h.0.has.calls.view t.has.calls.view m.grows c))

      -- of a client that made all its operations
      pub run_come : (xs : List Task) (c d : Caller O g) → AllByRecursion Fits xs → RunBy state p q false xs c d → (j : ℕ) (x : Task) → get_elem? xs j ≡ some x → HasCome q x d.outcomes.items d.calls.seat.me.0
      run_come xs c d fits r j x at =
          let made = let n = at_length xs j x at in let e = r.ends.0 in ran_come xs fits r.made (begins c) (record { has = stand r.came; told = r.came.outcomes.items; names = r.ran.names }) r.ran.ran j x (omega arith) at in
          let g' = (end_moves q 0 state p xs c d r).grows in
          subst (λ (l : List Told). HasCome q x l d.calls.seat.me.0) (append-nil r.came.outcomes.items ∙ sym (ap (λ o. o.items) r.told))
          (come_later (call_index q 0) 0 x r.came.outcomes.items [] r.came.calls.seat.me.0 d.calls.seat.me.0 g' made)
