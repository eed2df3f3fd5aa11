-- What the rule of the ids says of the word at a step: who claimed a slot finds its id free, and who has a lock finds its word locked and only with more errors.
use Rattle.std.proofs.Common.{◌≡◌, ℕ, ◌+◌, ◌<◌, ◌≤◌, List, [], ◌∷◌, get_or, sym, ◌∙◌, arith}
use Rattle.std.specs.List.{AllByRecursion}
use mathlib.Core.Option.{some}
use lib.ListN.{get_elem?}
use Rattle.corr_core.specs.IdSlotWord.{parts}
use Rattle.corr_core.specs.IdSlotLaw.{Births, Local, Stands, vacant, retired, claimed, opened, locked, leaving}
use Rattle.corr_core.specs.declared.marks.Plan.{Plan as IdPlan}
use Rattle.corr_core.specs.declared.marks.Hand.{Hand}
use Rattle.corr_core.specs.declared.marks.Hand.TheVariants.{Full}
use Rattle.corr_core.specs.declared.marks.Token.TheVariants.{Claimed, Locked}
use Rattle.seat_programs.specs.id_rule.specs.LawfulIdTable.{id_index, local, Lawful}
use Rattle.seat_programs.specs.id_rule.specs.IdPlays.{Longer}
use Rattle.seat_programs.specs.id_rule.proofs.AllowedIdSteps as allowed
use Rattle.seat_programs.specs.sock_message.specs.Asked.{Asked}
use Rattle.seat_programs.specs.LoopHeads.{Retry}
use Rattle.seat_programs.specs.Cores.{Calls}
use Rattle.call_owing.specs.Below.id_runs.specs.HeldIdTokens.{IdView, id_state, HasOne}
use Rattle.call_owing.specs.Below.id_runs.specs.Goes.{FitsRetryId, FindsLonger}
use Rattle.owing_ticks.proofs.SeatRetriesBehindStep.{Few}

-- retries that wait are of few attempts
pub few_of : (q : IdPlan) (ws : List Retry) → AllByRecursion (FitsRetryId q) ws → AllByRecursion Few ws
few_of q [] all = tt
few_of q (w ∷ ws) all = (all.0.1, few_of q ws all.1)

pub claimed_free : (b : Births Asked) (l : Local Asked) (seen : ℕ) (h : Hand Asked) → Stands b l → l.tokens ≡ Claimed seen h ∷ [] → l.word.state ≡ 0
claimed_free b l seen h (vacant t g s x y) has = s
claimed_free b l seen h (retired t g s x y) has = s
claimed_free b l seen h (claimed seen' h' t g s x y z) has = s
claimed_free b l seen h (opened c t s live x y z) has = let e : [] ≡ Claimed seen h ∷ [] = sym t ∙ has in absurd cc
claimed_free b l seen h (locked c x y h' t s live z w v) has = let e : Locked l.word.first l.word.range l.word.attempt c x y h' ∷ [] ≡ Claimed seen h ∷ [] = sym t ∙ has in absurd cc
claimed_free b l seen h (leaving t g s x y) has = s

module _ (q : IdPlan) (a : Calls) (us : List IdView) (law : Lawful q (id_state a us)) (k : ℕ) (u : IdView) (at : get_elem? us k ≡ some u) (real : 0 < u.share) (i : ℕ) (inside : i < q.slots) where
  abbrev pub Word : ℕ
  Word = get_or a.words (id_index i) 0

  pub free_there : (seen : ℕ) (c : Asked) → HasOne i (Claimed seen (Full c)) u → (parts Word).state ≡ 0
  free_there seen c has = claimed_free (law.slots i inside).b (local (id_state a us) i) seen (Full c) (law.slots i inside).stands (allowed.own q k (u, []) i inside real (id_state a us) law at (Claimed seen (Full c)) has)

  module _ (f rg att o s : ℕ) (c : Asked) (has : HasOne i (Locked f rg att c o s (Full c)) u) (from : ℕ) (longer : Longer f rg att o s (parts from)) where
    -- its range began low
    pub lock_low : (parts from).first < 4294967296
    lock_low = let r = allowed.known q k (u, []) i inside real (id_state a us) law at f rg att o s c has in let low = r.live.low in omega (arith, low, r.first_is, longer.first_is)

    pub lock_few : (more : ℕ) → att + more + 2 ≤ rg → (parts from).attempt + more ≤ 6
    lock_few more room = let high : (parts from).range ≤ 8 = omega arith in omega (arith, room, high, longer.range_is, longer.attempt_is)

    pub lock_two : (parts from).state ≡ 2
    lock_two = longer.state_is

    pub lock_longer : FindsLonger u i Word → ((parts Word).first ≡ (parts from).first) × ((parts Word).attempt ≡ (parts from).attempt)
    lock_longer finds = let l = finds f rg att o s c has in (sym l.first_is ∙ longer.first_is, sym l.attempt_is ∙ longer.attempt_is)
