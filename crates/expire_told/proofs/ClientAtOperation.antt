-- A client's run at one of its operations: how far it had come, what became of it, and how it went on.
use Rattle.std.proofs.Common.{◌≡◌, ℕ, zero, suc, ◌+◌, ◌<◌, false, List, [], ◌++◌, append-nil, append_assoc, drop, refl, sym, ap, ◌∙◌, subst, arith}
use Rattle.std.specs.List.{AllByRecursion}
use Rattle.std.proofs.lemmas.List.{drop_all}
use mathlib.Core.Logic.{dite}
use mathlib.Core.Option.{some, some-injective}
use native.Mathlib.Decide.{ℕ_discrete}
use lib.ListN.{get_elem?}
use Rattle.sock_io.specs.declared.link.Out.{Ghosts}
use Rattle.sock_io.specs.LinkHalves.{OutState}
use Rattle.sock_words.specs.declared.plain.Plan.{Plan}
use Rattle.seat_programs.specs.declared.task.Task.{Task}
use Rattle.corr_core.specs.declared.marks.Plan as id_plan
use Rattle.corr_core.proofs.NoteSums.{at_length}
use Rattle.call_told.specs.Below.RpcClient.Told.{Told}
use Rattle.call_told.specs.Below.RpcClient.ToldOfOperation.{telling}
use Rattle.call_told.specs.Below.CallErrors.ClientBooks.{CallStand, stand_of}
use Rattle.call_told.specs.Below.CallClient.Caller.{Caller}
use Rattle.call_told.specs.Below.CallClient.ClientBetweenOperations.{Stand, stand}
use Rattle.call_told.specs.Below.CallClient.ClientRun.{Course, Made, Ran, begins, RunBy}
use Rattle.call_told.proofs.ListElementsByPlace.{all_at}
use Rattle.call_told.proofs.ClientTellingMoves.{Fits, Moves, moves_then, moves_same, made_moves, end_moves}
use Rattle.call_told.proofs.RunsTellNotedEnds.{none_left}

module _ (q : id_plan.Plan) where
  -- whatever is asked of the words of calls, it went on from here to there
  abbrev pub GoesOn : CallStand → CallStand → Type 0
  GoesOn s t = (o : ℕ) → (k : ℕ) × Moves q o k s t

  pub on_then : (s u t : CallStand) → GoesOn s u → GoesOn u t → GoesOn s t
  on_then s u t a b o = let x = a o in let y = b o in (x.0 + y.0, moves_then q o x.0 y.0 (x.0 + y.0) s u t (omega arith) x.1 y.1)

module _ {O : Type 0} {g : Ghosts O} (state : O → OutState) (p : Plan) (q : id_plan.Plan) where
  -- operation i of a run
  pub record Split (xs : List Task) (i : ℕ) (x : Task) (s t : Course g) : Type 0 where
    pub before : Course g
    pub after : Course g
    pub ran : Ran state p q xs i s before
    pub made : Made state p q x before after
    pub later : GoesOn q after.has.calls t.has.calls
    pub told : (more : List Told) × (t.told ≡ after.told ++ more)

  pub ran_split : (xs : List Task) → AllByRecursion Fits xs → (n : ℕ) (s t : Course g) → Ran state p q xs n s t → (i : ℕ) (x : Task) → i < n → get_elem? xs i ≡ some x → Split xs i x s t
  ran_split xs fits zero s t h i x low at = absurd (omega arith)
  ran_split xs fits (suc n) s t h i x low at = dite (ℕ_discrete i n)
      (λ e. let same : h.1 ≡ x = some-injective h.1 x (sym h.3 ∙ (ap (get_elem? xs) (sym e) ∙ at)) in record {
        before = h.0;
        after = t;
        ran = subst (λ (k : ℕ). Ran state p q xs k s h.0) (sym e) h.2;
        made = subst (λ (y : Task). Made state p q y h.0 t) same h.4;
        later = λ o. (0, moves_same q o 0 t.has.calls t.has.calls refl);
        told = ([], sym (append-nil t.told));
      })
      (λ ne. let r = ran_split xs fits n s h.0 h.2 i x (omega (arith, low, ne)) at in record {
        before = r.before;
        after = r.after;
        ran = r.ran;
        made = r.made;
        later = on_then q r.after.has.calls h.0.has.calls t.has.calls r.later (λ o. (_, made_moves q o state p h.1 h.0 t (all_at Fits xs n h.1 fits h.3) h.4));
        told = (r.told.0 ++ telling h.1.number h.4.by, h.4.told ∙ (ap (λ (l : List Told). l ++ telling h.1.number h.4.by) r.told.1 ∙ append_assoc r.after.told r.told.0 (telling h.1.number h.4.by)));
      })

  -- of a client that made all its operations
  pub record Done (xs : List Task) (c d : Caller O g) (i : ℕ) (x : Task) : Type 0 where
    pub before : Course g
    pub after : Course g
    pub ran : Ran state p q xs i (begins c) before
    pub made : Made state p q x before after
    pub later : GoesOn q after.has.calls (stand_of d.calls)
    pub told : (more : List Told) × (d.outcomes.items ≡ after.told ++ more)

  pub done_of : (xs : List Task) (c d : Caller O g) → AllByRecursion Fits xs → RunBy state p q false xs c d → (i : ℕ) (x : Task) → get_elem? xs i ≡ some x → Done xs c d i x
  done_of xs c d fits r i x at =
      let low = at_length xs i x at in let all = r.ends.0 in
      let w = ran_split xs fits r.made (begins c) (record { has = stand r.came; told = r.came.outcomes.items; names = r.ran.names }) r.ran.ran i x (omega arith) at in record {
        before = w.before;
        after = w.after;
        ran = w.ran;
        made = w.made;
        later = on_then q w.after.has.calls (stand_of r.came.calls) (stand_of d.calls) w.later (λ o. (0, end_moves q o state p xs c d r));
        told = (w.told.0, ap (λ o. o.items) r.told ∙ w.told.1);
      }

  -- memory was never wanting
  pub run_fed : {xs : List Task} (c d : Caller O g) → RunBy state p q false xs c d → d.calls.starved ≡ false
  run_fed {xs} c d r =
      let all : drop r.made xs ≡ [] = let n = r.ends.0 in drop_all r.made xs (omega arith) in
      ap (λ (s : CallStand). s.books.starved) r.calls ∙ (ap (λ (s : Stand g). s.calls.books.starved) (none_left state p q r.last r.end (drop r.made xs) all r.left) ∙ r.ends.1.all.fed)
