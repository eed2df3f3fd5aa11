-- All submitters, in the order of their numbers.
use Rattle.std.proofs.Common.{◌≡◌, ℕ, zero, suc, ◌+◌, ◌-◌, ◌*◌, ◌/◌, ◌%◌, ◌<◌, ◌≤◌, ◌⊎◌, inl, inr, false, Some, List, [], ◌∷◌, ◌++◌, take, length, length-append, refl, sym, ap, ◌∙◌, subst, arith}
use Rattle.std.specs.Prelude.{slice_get, slice_index_or}
use Rattle.std.specs.Vec.{vec_capacity}
use Rattle.std.proofs.lemmas.Option.{slice_get-get_or, slice_get_within, get_or_from_slice_get}
use Rattle.std.proofs.lemmas.List.{take-append-le, take_all}
use Rattle.std.proofs.Math.Nat.{div-add-mod, mul-le-mul_left}
use mathlib.Core.Logic.{dite}
use native.Mathlib.Decide.{dec_lt}
use Rattle.sock_io.specs.declared.link.Out.{Ghosts}
use Rattle.exec_queue.specs.declared.queue.TaskQueue.{TaskQueue}
use Rattle.exec_queue.specs.declared.queue.TaskSubmitter.{TaskSubmitter}
use Rattle.exec_queue.specs.NewQueue.{IsNew, AreNewFrom}
use Rattle.exec_script.specs.declared.op.Op.{Op}
use Rattle.exec_script.specs.declared.told.Answer.{Answer}
use Rattle.exec_threads.specs.declared.worker.Worker.{Worker}
use Rattle.exec_threads.specs.LinesDone.{own_place, IsAtWork, IsWaiting, HasWorked}
use Rattle.exec_threads.specs.ScriptDone.{AreWaiting, HaveWorked, AllEnough, AreDealt}
use Rattle.exec_threads.proofs.LinesOfSubmitter.{there_then}

-- what a vector has behind a call on its whole slice
pub whole_again : {A : Type 0} (n : ℕ) (xs ys : List A) → length xs ≡ n → take n (xs ++ ys) ≡ xs
whole_again n xs ys e = take-append-le n xs ys (omega (arith, e)) ∙ take_all n xs (omega (arith, e))

module _ {O : Type 0} {g : Ghosts O} (q : TaskQueue O g) (script : List Op) (step : ℕ) where
  own_number : (n : ℕ) (w : Worker O g) → IsWaiting q script step n w → IsWaiting q script step w.by.number w
  own_number n w is = record { at = is.at; number_is = refl; empty = is.empty; enough = is.enough }

  pub each_waits : (ws : List (Worker O g)) → AreWaiting q script step ws → (k : ℕ) (d : Worker O g) → k < length ws → IsWaiting q script step (slice_index_or ws k d).by.number (slice_index_or ws k d)
  each_waits ws are k d lt = own_number (k + 1) (slice_index_or ws k d) (are k (slice_index_or ws k d) (slice_get-get_or ws k d lt))

  pub all_worked : (old new : List (Worker O g)) → AreWaiting q script step old → length new ≡ length old → ((i : ℕ) (d : Worker O g) → i < length old → HasWorked q script step (slice_index_or old i d).by.number (slice_index_or new i d)) → HaveWorked q script step new
  all_worked old new are same each k w at =
      let lt = slice_get_within new k w at in
      let low : k < length old = omega (arith, lt, same) in
      let number : (slice_index_or old k w).by.number ≡ k + 1 = (are k (slice_index_or old k w) (slice_get-get_or old k w low)).number_is in
      subst (λ (v : Worker O g). HasWorked q script step (k + 1) v) (get_or_from_slice_get new k w w at) (subst (λ (n : ℕ). HasWorked q script step n (slice_index_or new k w)) number (each k w low))

  -- a submitter without answers
  pub begins : (n : ℕ) (w : Worker O g) → IsNew q (n + 1) w.by → n < step → w.answers.items ≡ [] → length script ≤ vec_capacity w.answers → w.short ≡ false → IsWaiting q script step (n + 1) w
  begins n w new low none room enough = record {
    at = record {
      some = (let e = new.number_is in omega (arith, e));
      low = (let e = new.number_is in omega (arith, e, low));
      room = room;
      is = rw none new.is;
      inside = rw none (λ m lt. absurd (omega (arith, lt)));
      fit = rw none (λ m op answer a b. absurd cc);
      stops = rw none new.stops;
      told = rw none (λ m late there is. absurd cc);
      behind = rw none (λ m stop late there is halted. absurd cc);
    };
    number_is = new.number_is;
    empty = none;
    enough = enough;
  }

  pub waiting_then : (ws ws' : List (Worker O g)) (w : Worker O g) → AreWaiting q script step ws → IsWaiting q script step (length ws + 1) w → ws' ≡ ws ++ w ∷ [] → AreWaiting q script step ws'
  waiting_then ws ws' w are is items k v at = by_cases (there_then ws w v k (subst (λ (l : List (Worker O g)). slice_get l k ≡ Some v) items at))
    where
      by_cases : (slice_get ws k ≡ Some v) ⊎ ((k ≡ length ws) × (w ≡ v)) → IsWaiting q script step (k + 1) v
      by_cases (inl e) = are k v e
      by_cases (inr e) = subst (λ (x : Worker O g). IsWaiting q script step (k + 1) x) e.1 (subst (λ (n : ℕ). IsWaiting q script step (n + 1) w) (sym e.0) is)

  -- each line has an answer
  pub has_answer : 1 ≤ step → (ws : List (Worker O g)) → length ws ≡ step → HaveWorked q script step ws → AllEnough ws → (place : ℕ) (w : Worker O g) → place < length script → slice_get ws (place % length ws) ≡ Some w → place / length ws < length w.answers.items
  has_answer some ws count have enough place w inside at =
      let worked = have (place % length ws) w at in
      let all = worked.all (enough (place % length ws) w at) in
      let parts : step * (place / length ws) + place % length ws ≡ place = subst (λ (n : ℕ). n * (place / length ws) + place % length ws ≡ place) count (div-add-mod place (length ws)) in
      dite (dec_lt (place / length ws) (length w.answers.items))
      (λ lt. lt)
      (λ no. absurd (let over = mul-le-mul_left step (let h : length w.answers.items ≤ place / length ws = omega (arith, no) in h) in omega (arith, over, all, parts, inside)))

pub dealt_then : {O : Type 0} {g : Ghosts O} (ws : List (Worker O g)) (place : ℕ) (answers answers' : List Answer) (w : Worker O g) (x : Answer) → AreDealt ws place answers → slice_get ws (place % length ws) ≡ Some w → slice_get w.answers.items (place / length ws) ≡ Some x → answers' ≡ answers ++ x ∷ [] → AreDealt ws (place + 1) answers'
dealt_then {O = O} {g = g} ws place answers answers' w x are at there items = record {
  long = (let e = are.long in let l = ap length items in let k = length-append answers (x ∷ []) in omega (arith, e, l, k));
  dealt = λ p answer v is at_v. by_cases p answer v at_v (there_then answers x answer p (subst (λ (l : List Answer). slice_get l p ≡ Some answer) items is));
}
  where
    by_cases : (p : ℕ) (answer : Answer) (v : Worker O g) → slice_get ws (p % length ws) ≡ Some v → (slice_get answers p ≡ Some answer) ⊎ ((p ≡ length answers) × (x ≡ answer)) → slice_get v.answers.items (p / length ws) ≡ Some answer
    by_cases p answer v at_v (inl e) = are.dealt p answer v e at_v
    by_cases p answer v at_v (inr e) =
        let here : p ≡ place = e.0 ∙ are.long in
        let same : w ≡ v = (let r : Some w ≡ Some v = sym at ∙ (ap (λ (n : ℕ). slice_get ws (n % length ws)) (sym here) ∙ at_v) in cc) in
        subst (λ (y : Answer). slice_get v.answers.items (p / length ws) ≡ Some y) e.1 (subst (λ (n : ℕ). slice_get v.answers.items (n / length ws) ≡ Some x) (sym here) (subst (λ (u : Worker O g). slice_get u.answers.items (place / length ws) ≡ Some x) same there))
