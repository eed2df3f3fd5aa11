-- How a run goes on by an operation, and what of its list is left then.
use Rattle.std.proofs.Common.{◌≡◌, ◌≢◌, ℕ, zero, suc, ◌+◌, ◌<◌, ◌≤◌, Bool, true, false, cond, Some, None, inl, inr, List, [], ◌∷◌, ◌++◌, length, drop, length-append, add-one, refl, sym, ap, ◌∙◌, subst, arith}
use Rattle.std.specs.Prelude.{Option as Maybe, All, IfOk, IfErr}
use Rattle.std.specs.Result.{is_err}
use Rattle.std.specs.declared.result.Result.{Result}
use Rattle.std.specs.declared.result.Result.TheVariants.{Ok, Err}
use Rattle.std.proofs.lemmas.List.Elements.{All-nil, All-append, All-weaker}
use mathlib.Core.Option.{some}
use lib.ListN.{get_elem?}
use Rattle.sock_io.specs.declared.link.Out.{Ghosts}
use Rattle.sock_io.specs.LinkHalves.{OutState}
use Rattle.sock_words.specs.declared.plain.Plan.{Plan}
use Rattle.sock_words.specs.declared.outcome.Outcome.{Outcome}
use Rattle.sock_words.specs.declared.outcome.Outcome.TheVariants as outcome
use Rattle.sock_model.specs.SocketTableLayout.{name_index}
use Rattle.sock_table.specs.NamesStoredAndFound.{HasSeen}
use Rattle.corr_core.specs.declared.marks.Plan as id_plan
use Rattle.seat_programs.specs.declared.task.Op.{Op}
use Rattle.seat_programs.specs.declared.task.Op.TheVariants as ops
use Rattle.seat_programs.specs.declared.task.Task.{Task}
use Rattle.rpc_client.specs.SeatBetweenOperations.{StaysSeen}
use Rattle.rpc_client.specs.ToldOfOperation.{telling, finds_name}
use Rattle.call_errors.specs.declared.seats.CallSeat.{CallSeat}
use Rattle.call_errors.specs.ClientBooks.{stand_of}
use Rattle.call_errors.specs.Starving.{StarvedBy}
use Rattle.call_attempts.specs.ClientAtBothTables.{wanting}
use Rattle.call_client.specs.declared.caller.Caller.{Caller}
use Rattle.call_client.specs.ClientBetweenOperations.{Stand, stand, MayMake, Acted}
use Rattle.call_client.specs.ClientRun.{names_in, Course, RetriedHere, Ran, Stops, without_room, while_calling, begins, RanTo, left_by, MayMakeAll, LeftBy, LeftAll, EndsBy}
use Rattle.call_client.specs.ClientStopsMaking.{NotMade, IsRest, ComesTo, CameBy}
use Rattle.call_client.proofs.KnowingOperationNames.{acted_known, unopened_new}
use Rattle.call_client.proofs.StarvedCallsNotRetried.{starved_retries}

-- ## The list of operations

-- the first of what is left is the next of the whole
pub next_there : {A : Type 0} (n : ℕ) (xs rest : List A) (x : A) → drop n xs ≡ x ∷ rest → (get_elem? xs n ≡ some x) × (drop (suc n) xs ≡ rest) × (n < length xs)
next_there zero [] rest x e = cc
next_there zero (y ∷ ys) rest x e = (ap (λ l. get_elem? l 0) e, ap (λ l. drop (suc zero) l) e, omega arith)
next_there (suc n) [] rest x e = cc
next_there (suc n) (y ∷ ys) rest x e = let a = next_there n ys rest x e in (a.0, a.1, omega arith)

-- none is left where all were made
pub none_behind : {A : Type 0} (n : ℕ) (xs : List A) → n ≤ length xs → drop n xs ≡ [] → n ≡ length xs
none_behind zero [] le e = refl
none_behind zero (y ∷ ys) le e = cc
none_behind (suc n) [] le e = absurd (omega arith)
none_behind (suc n) (y ∷ ys) le e = let a = none_behind n ys (omega arith) e in omega arith

pub may_next : (p : Plan) (q : id_plan.Plan) (xs rest : List Task) (x : Task) (passes : ℕ) → xs ≡ x ∷ rest → MayMakeAll p q xs passes → MayMake p q x passes × MayMakeAll p q rest (left_by x.op passes)
may_next p q xs rest x passes e m = subst (λ (l : List Task). MayMakeAll p q l passes) e m

pub none_left : {A : Type 0} (p : Plan) (q : id_plan.Plan) (xs : List Task) (passes : List A) → xs ≡ [] → MayMakeAll p q xs (length passes) → passes ≡ []
none_left p q xs passes e m = nothing passes (subst (λ (l : List Task). MayMakeAll p q l (length passes)) e m)
  where
    nothing : {A : Type 0} (l : List A) → length l ≡ 0 → l ≡ []
    nothing [] z = refl
    nothing (x ∷ xs) z = absurd (omega arith)

-- what holds of any value or error that a call gives holds by each consequence
pub ok_then : {A E : Type 0} (r : Result A E) (P Q : A → Type 0) → ((x : A) → P x → Q x) → IfOk r P → IfOk r Q
ok_then (Ok x) P Q f h = f x h
ok_then (Err e) P Q f h = tt

pub err_then : {A E : Type 0} (r : Result A E) (P Q : E → Type 0) → ((x : E) → P x → Q x) → IfErr r P → IfErr r Q
err_then (Ok x) P Q f h = tt
err_then (Err e) P Q f h = f e h

-- room was made, and nothing else
pub begins_same : {O : Type 0} {g : Ghosts O} (b c : Caller O g) → c.seat ≡ b.seat → c.held.items ≡ b.held.items → c.passes ≡ b.passes → c.calls ≡ b.calls → c.outcomes.items ≡ b.outcomes.items → begins c ≡ begins b
begins_same b c seat held passes calls told = λ i. record { has = record { me = (seat i).me; held = held i; passes = (passes i).items; calls = stand_of (calls i) }; told = told i; names = [] }

module _ {O : Type 0} {g : Ghosts O} (state : O → OutState) (p : Plan) (q : id_plan.Plan) where
  -- ## Passes

  pub acted_passes : (number : ℕ) (op : Op) (by : Maybe Outcome) (s t : Stand g) → Acted state p q number op by s t → length t.passes ≡ left_by op (length s.passes)
  acted_passes number (ops.Open n k) (Some by) s t b = let e = ap length b.0.next in let d = length-append t.passes (b.0.pass ∷ []) in omega arith
  acted_passes number (ops.Send n bytes) by s t b = ap length b.1.passes
  acted_passes number (ops.Call asked) (Some outcome.Unopened) s t b = ap length b.1.passes
  acted_passes number (ops.Call asked) None s t b = ap length b.2.passes
  acted_passes number (ops.Call asked) (Some _) s t b = elim b [ ]
  acted_passes number (ops.Expire of) (Some by) s t b = ap length b.2.passes
  acted_passes number (ops.Join of) (Some by) s t b = ap length b.2.passes
  acted_passes number (ops.Hold n) (Some by) s t b = ap length b.1
  acted_passes number (ops.Drop n) (Some by) s t b = ap length b.1
  acted_passes number (ops.Fail n code) (Some by) s t b = ap length b.1.passes
  acted_passes number _ None s t b = elim b [ ]

  pub not_made_passes : (op : Op) (s t : Stand g) → NotMade state p q op s t → length t.passes ≡ left_by op (length s.passes)
  not_made_passes (ops.Call asked) s t b = ap length b.1.passes
  not_made_passes _ s t b = elim b [ ]

  pub left_passes : (number : ℕ) (op : Op) (s t : Stand g) → LeftBy p number op s t → length t.passes ≡ left_by op (length s.passes)
  left_passes number (ops.Open n k) s t b = let e = ap length b.1 in let d = length-append t.passes (b.0 ∷ []) in omega arith
  left_passes number _ s t b = ap (λ (u : Stand g). length u.passes) b

  -- what may be made behind an operation
  pub may_rest : (xs rest : List Task) (x : Task) (s t : Stand g) → xs ≡ x ∷ rest → length t.passes ≡ left_by x.op (length s.passes) → MayMakeAll p q xs (length s.passes) → MayMakeAll p q rest (length t.passes)
  may_rest xs rest x s t e left may = subst (λ (k : ℕ). MayMakeAll p q rest k) (sym left) (may_next p q xs rest x (length s.passes) e may).1

  module _ (xs : List Task) where
    -- ## One operation more

    module _ (n : ℕ) (x : Task) (c d e f : Caller O g) (by : Maybe Outcome) (r : RanTo state p q xs n c d) (ready : RetriedHere state p q (stand d) (stand e)) (acted : Acted state p q x.number x.op by (stand e) (stand f)) (kept : StaysSeen d.seat.me.0 e.seat.me.0) (seen : StaysSeen e.seat.me.0 f.seat.me.0) where
      abbrev knows : Caller O g → ℕ → Type 0
      knows h m = HasSeen (name_index p m) h.seat.me.0

      was_known : All (knows e) r.names
      was_known = All-weaker (knows d) (knows e) (λ m has. kept (name_index p m) has) r.names r.known

      abbrev names_then : List ℕ
      names_then = cond (finds_name by) (names_in x.op ++ r.names) r.names

      before : All (knows f) r.names
      before = All-weaker (knows e) (knows f) (λ m has. seen (name_index p m) has) r.names was_known

      known_by : (b : Bool) → finds_name by ≡ b → All (knows f) (cond b (names_in x.op ++ r.names) r.names)
      known_by true is = All-append (knows f) (names_in x.op) r.names (acted_known state p q x.number x.op by (stand e) (stand f) is acted) before
      known_by false is = before

      -- none that is known is the name of an operation that found it unopened
      others_new : by ≡ Some outcome.Unopened → All (λ m. All (λ k. k ≢ m) r.names) (names_in x.op)
      others_new un = All-weaker (λ m. HasSeen (name_index p m) e.seat.me.0 → ⊥) (λ m. All (λ k. k ≢ m) r.names)
          (λ m never. All-weaker (knows e) (λ k. k ≢ m) (λ k has same. never (subst (knows e) same has)) r.names was_known)
          (names_in x.op) (unopened_new state p q x.number x.op (stand e) (stand f) (subst (λ (o : Maybe Outcome). Acted state p q x.number x.op o (stand e) (stand f)) un acted))

      pub ran_more : get_elem? xs n ≡ some x → e.outcomes.items ≡ d.outcomes.items → f.outcomes.items ≡ e.outcomes.items ++ telling x.number by → RanTo state p q xs (n + 1) c f
      ran_more at same told = subst (λ (k : ℕ). RanTo state p q xs k c f) (sym (add-one n)) record {
        names = names_then;
        ran = (record { has = stand d; told = d.outcomes.items; names = r.names }, x, r.ran, at, record { ready = stand e; retried = ready; by = by; acted = acted; told = told ∙ ap (λ l. l ++ telling x.number by) same; names = refl; first = others_new });
        known = known_by (finds_name by) refl;
      }

    pub ran_none : (c : Caller O g) → RanTo state p q xs 0 c c
    ran_none c = record { names = []; ran = refl; known = All-nil (λ m. HasSeen (name_index p m) c.seat.me.0) }

    -- a client that did nothing but to make room
    pub ran_before : (n : ℕ) (b c d : Caller O g) → begins c ≡ begins b → RanTo state p q xs n c d → RanTo state p q xs n b d
    ran_before n b c d e r = record { names = r.names; ran = subst (λ (u : Course g). Ran state p q xs n u record { has = stand d; told = d.outcomes.items; names = r.names }) e r.ran; known = r.known }

    -- ## No operation more

    -- there is no room, and nothing was done
    pub roomless : (b c d : Caller O g) → begins c ≡ begins b → d.outcomes ≡ c.outcomes → stand d ≡ record (stand c) { calls = wanting (stand c).calls } → CameBy state p q (ComesTo state p q true xs) xs xs b d
    roomless b c d e told is = record { made = 0; few = omega arith; came = c; ran = ran_before 0 b c c e (ran_none c); told = told; ends = without_room is; left = inl refl }

    -- a call that was not made is left out
    short_by : (n number : ℕ) (op : Op) (rest : List Task) (s r t : Stand g) → drop n xs ≡ record { number = number; op = op } ∷ rest → RetriedHere state p q s r → NotMade state p q op r t → Stops state p q xs n s t × IsRest xs n rest
    short_by n number (ops.Call asked) rest s r t at ready made = (while_calling r number asked ready (next_there n xs rest (record { number = number; op = ops.Call asked }) at).0 made.0 made.1, inr (number, asked, at))
    short_by n number _ rest s r t at ready made = elim made [ ]

    pub short_at : (n : ℕ) (x : Task) (rest : List Task) (s r t : Stand g) → drop n xs ≡ x ∷ rest → RetriedHere state p q s r → NotMade state p q x.op r t → Stops state p q xs n s t × IsRest xs n rest
    short_at n x rest s r t at ready made = short_by n x.number x.op rest s r t at ready made

    -- then each call whose retry waited was ended, where memory was wanting: none waits any more, and where it wasn't it isn't now
    pub record Ended {A E : Type 0} (r : Result A E) (rest : List Task) (c d : Caller O g) : Type 0 where
      pub by : CameBy state p q (EndsBy state p q (is_err r) xs) xs rest c d
      pub none_waits : d.calls.retries.items ≡ []
      pub fed : IfOk r (λ _. d.calls.starved ≡ false)

    pub ended_then : {A E : Type 0} (r : Result A E) (rest : List Task) (c d : Caller O g) (k : CallSeat) → IfOk r (λ _. CameBy state p q (ComesTo state p q false xs) xs rest c d) → IfErr r (λ _. CameBy state p q (ComesTo state p q true xs) xs rest c d) → (is_err r ≡ true → StarvedBy q.slots (stand_of d.calls) (stand_of k)) → (is_err r ≡ false → k ≡ d.calls) → Ended r rest c (record d { calls = k })
    ended_then {A} {E} (Ok x) rest c d k all short starved same = subst (λ (m : CallSeat). Ended {E = E} (Ok x) rest c (record d { calls = m })) (sym (same refl)) record {
      by = record { made = all.made; few = all.few; came = all.came; ran = all.ran; told = all.told; ends = all.ends; left = all.left };
      none_waits = all.ends.1.all.none_waits;
      fed = all.ends.1.all.fed;
    }
    ended_then (Err x) rest c d k all short starved same = record {
      by = record { made = short.made; few = short.few; came = short.came; ran = short.ran; told = short.told; ends = (stand d, short.ends, starved refl, refl, record { held = refl; passes = refl }); left = short.left };
      none_waits = starved_retries q.slots (stand_of d.calls) (stand_of k) (starved refl);
      fed = tt;
    }

    -- what was left is what follows on the operations that were made
    pub left_behind : (n : ℕ) (rest : List Task) (s t : Stand g) → IsRest xs n rest → LeftAll p rest s t → LeftAll p (drop n xs) s t
    left_behind n rest s t (inl e) left = subst (λ (l : List Task). LeftAll p l s t) (sym e) left
    left_behind n rest s t (inr (number, asked, e)) left = subst (λ (l : List Task). LeftAll p l s t) (sym e) (s, refl, left)
