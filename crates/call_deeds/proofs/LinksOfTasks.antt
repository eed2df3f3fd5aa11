-- Each socket that a client opens gets the link of its task: the passes are spent in the order of their links.
use Rattle.std.proofs.Common.{◌≡◌, ℕ, zero, suc, ◌+◌, Option, Some, None, List, [], ◌∷◌, ◌++◌, take, length-append, refl, sym, ap, ◌∙◌, subst, arith}
use mathlib.Core.Option.{some, some-injective, some-ne-none}
use lib.ListN.{get_elem?}
use Rattle.sock_io.specs.declared.link.Out.{Ghosts}
use Rattle.sock_io.specs.LinkHalves.{OutState}
use Rattle.sock_words.specs.declared.outcome.Outcome.{Outcome}
use Rattle.sock_words.specs.declared.outcome.Outcome.TheVariants as outcome
use Rattle.sock_words.specs.declared.plain.Plan.{Plan}
use Rattle.call_places.specs.Below.SockTable.LinkPass.{LinkPass}
use Rattle.seat_programs.specs.declared.task.Op.{Op}
use Rattle.seat_programs.specs.declared.task.Op.TheVariants as ops
use Rattle.seat_programs.specs.declared.task.Task.{Task}
use Rattle.corr_core.specs.declared.marks.Plan as id_plan
use Rattle.call_places.specs.Below.CallClient.ClientBetweenOperations.{Stand, Needs, Acted}
use Rattle.call_places.specs.Below.CallClient.ClientRun.{Course, Ran, MayMakeAll, left_by}
use Rattle.call_places.specs.Below.CallRun.Threads.{opens_in, opens_of, LinksDown}
use Rattle.call_deeds.specs.ScriptsWithCalls.{IsNextLink, HaveLinks}
use Rattle.call_deeds.proofs.OperationsAsDeeds.{IsRight}

pub take_next : {A : Type 0} (xs : List A) (n : ℕ) (x : A) → get_elem? xs n ≡ some x → take (suc n) xs ≡ take n xs ++ x ∷ []
take_next [] n x e = absurd (some-ne-none x (sym e))
take_next (y ∷ ys) zero x e = ap (λ z. z ∷ []) (some-injective y x e)
take_next (y ∷ ys) (suc n) x e = ap (λ l. y ∷ l) (take_next ys n x e)

pub opens-append : (ts us : List Task) → opens_of (ts ++ us) ≡ opens_of ts + opens_of us
opens-append [] us = omega arith
opens-append (t ∷ ts) us = let e = opens-append ts us in omega arith

-- the pass that stands last has the first link
last_link : {O : Type 0} {g : Ghosts O} (first : ℕ) (l : List (LinkPass O g)) (x : LinkPass O g) → LinksDown first (l ++ x ∷ []) → (x.link ≡ first) × LinksDown (first + 1) l
last_link first [] x d = ((let e = d.0 in omega arith), tt)
last_link first (y ∷ ys) x d = let r = last_link first ys x d.1 in (r.0, ((let e = d.0 in let n = length-append ys (x ∷ []) in omega arith), r.1))

-- the link of the task behind n others
pub link_at : (first : ℕ) (ts : List Task) (n : ℕ) (t : Task) → HaveLinks first ts → get_elem? ts n ≡ some t → IsNextLink (first + opens_of (take n ts)) t.op
link_at first [] n t h e = absurd (some-ne-none t (sym e))
link_at first (x ∷ xs) zero t h e = subst (λ (y : Task). IsNextLink (first + 0) y.op) (some-injective x t e) (subst (λ k. IsNextLink k x.op) (omega arith) h.0)
link_at first (x ∷ xs) (suc n) t h e = subst (λ k. IsNextLink k t.op) (omega arith) (link_at (first + opens_in x.op) xs n t h.1 e)

-- a call has the number of its task
abbrev pub IsOwnCall : ℕ → Op → Type 0
IsOwnCall number (ops.Call asked) = asked.operation ≡ number
IsOwnCall number other = Unit {0}

pub call_at : (p : Plan) (q : id_plan.Plan) (ts : List Task) (passes n : ℕ) (t : Task) → MayMakeAll p q ts passes → get_elem? ts n ≡ some t → IsOwnCall t.number t.op
call_at p q [] passes n t m e = absurd (some-ne-none t (sym e))
call_at p q (x ∷ xs) passes (suc n) t m e = call_at p q xs (left_by x.op passes) n t m.1 e
call_at p q (x ∷ xs) passes zero t m e = subst (λ (y : Task). IsOwnCall y.number y.op) (some-injective x t e) (own x.op (m.0.needs))
  where
    own : (op : Op) → Needs p q x.number op passes → IsOwnCall x.number op
    own (ops.Call asked) needs = needs.1
    own _ needs = tt

module _ {O : Type 0} {g : Ghosts O} (state : O → OutState) (p : Plan) (q : id_plan.Plan) where
  same_passes : (first : ℕ) (s t : Stand g) → t.passes ≡ s.passes → LinksDown first s.passes → LinksDown (first + 0) t.passes
  same_passes first s t e d = subst (λ k. LinksDown k t.passes) (omega arith) (subst (λ (l : List (LinkPass O g)). LinksDown first l) (sym e) d)

  -- what is left of the passes behind an operation
  left_links : (first number : ℕ) (op : Op) (by : Option Outcome) (s t : Stand g) → LinksDown first s.passes → Acted state p q number op by s t → LinksDown (first + opens_in op) t.passes
  left_links first number (ops.Open n k) (Some by) s t d a = (last_link first t.passes a.0.pass (subst (λ (l : List (LinkPass O g)). LinksDown first l) a.0.next d)).1
  left_links first number (ops.Send n bytes) by s t d a = same_passes first s t a.1.passes d
  left_links first number (ops.Call asked) (Some outcome.Unopened) s t d a = same_passes first s t a.1.passes d
  left_links first number (ops.Call asked) None s t d a = same_passes first s t a.2.passes d
  left_links first number (ops.Expire o) (Some by) s t d a = same_passes first s t a.2.passes d
  left_links first number (ops.Join o) (Some by) s t d a = same_passes first s t a.2.passes d
  left_links first number (ops.Hold n) (Some by) s t d a = same_passes first s t a.1 d
  left_links first number (ops.Drop n) (Some by) s t d a = same_passes first s t a.1 d
  left_links first number (ops.Fail n code) (Some by) s t d a = same_passes first s t a.1.passes d
  left_links first number _ _ s t d a = elim a [ ]

  -- so the pass of an `open` is that of its link
  pub right_by : (first number : ℕ) (op : Op) (s t : Stand g) → LinksDown first s.passes → IsNextLink first op → IsOwnCall number op → IsRight number op s t
  right_by first number (ops.Open n k) s t d next own = λ pass e. (last_link first t.passes pass (subst (λ (l : List (LinkPass O g)). LinksDown first l) e d)).0 ∙ sym next
  right_by first number (ops.Call asked) s t d next own = own
  right_by first number _ s t d next own = tt

  -- what is left behind the first n operations
  pub links_after : (first : ℕ) (xs : List Task) (n : ℕ) (s t : Course g) → LinksDown first s.has.passes → Ran state p q xs n s t → LinksDown (first + opens_of (take n xs)) t.has.passes
  links_after first xs zero s t d e = subst (λ k. LinksDown k t.has.passes) (ap (λ l. first + opens_of l) (none_taken xs)) (subst (λ (c : Course g). LinksDown (first + 0) c.has.passes) (sym e) (subst (λ k. LinksDown k s.has.passes) (omega arith) d))
    where
      none_taken : (ts : List Task) → [] ≡ take 0 ts
      none_taken [] = refl
      none_taken (t ∷ ts) = refl
  links_after first xs (suc n) s t d h =
      let before = links_after first xs n s h.0 d h.2 in
      let ready = subst (λ (l : List (LinkPass O g)). LinksDown (first + opens_of (take n xs)) l) (sym h.4.retried.own.passes) before in
      let more : opens_of (take (suc n) xs) ≡ opens_of (take n xs) + (opens_in h.1.op + 0) = ap opens_of (take_next xs n h.1 h.3) ∙ opens-append (take n xs) (h.1 ∷ []) in
      subst (λ k. LinksDown k t.has.passes) (omega arith) (left_links (first + opens_of (take n xs)) h.1.number h.1.op h.4.by h.4.ready t.has ready h.4.acted)
