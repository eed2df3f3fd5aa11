-- Each client accepts few messages, whatever the order of ticks, so that the place of each fits its word; and the ticket of a message is below that of an idle head.
use Rattle.std.proofs.Common.{◌≡◌, ℕ, suc, ◌-◌, ◌<◌, ◌≤◌, false, nat_lt, List, ◌∷◌, length, length-set, set, refl, sym, ap, subst, ⊎_elim, arith}
use mathlib.Core.Option.{some}
use lib.ListN.{get_elem?}
use Rattle.atomic_table.specs.Table.{State}
use Rattle.atomic_table.proofs.Lists.{at_set}
use Rattle.sock_words.specs.declared.plain.Plan.{Plan}
use Rattle.sock_model.specs.declared.chain.Entry.{Entry}
use Rattle.sock_model.specs.declared.chain.Right.{Right}
use Rattle.sock_model.specs.declared.chain.Stage.TheVariants.{Writes}
use Rattle.sock_model.specs.declared.home.Home.{Home}
use Rattle.sock_model.specs.declared.view.View.{View}
use Rattle.sock_model.specs.declared.view.Hand.{Hand}
use Rattle.sock_model.specs.Entries.{on, nth}
use Rattle.sock_model.specs.LinkWritingState.{Held}
use Rattle.sock_model.specs.ChainLawReads.{memory, tokens}
use Rattle.sock_model.specs.ChainRows.{entry_of, more, queued, righted}
use Rattle.sock_model.specs.LawfulSockets.{Lawful}
use Rattle.sock_model.specs.Rule.{MOST_ACCEPTED, AreShort, lists_of}
use Rattle.sock_steps.specs.slot_steps.proofs.SlotWeightSums.{term_le, total_bound}
use Rattle.sock_steps.specs.chain_steps.proofs.UntouchedByChainSteps.{in_size}
use Rattle.sock_steps.specs.chain_steps.proofs.ChainHeadSteps.{held_of}
use Rattle.sock_steps.specs.chain_steps.proofs.TicketLists.{nth_some}
use Rattle.sock_steps.proofs.SumsAsMarksChange.{either_way}
use Rattle.sock_steps.proofs.RightSteps.{right_in, right_alone}
use Rattle.sock_steps.proofs.RuleFrame.{SameNotes, accept_short}
use Rattle.sock_steps.proofs.Positions.{few_log, on_shorter}
use Rattle.sock_steps.proofs.Walked.{writes_left}
use Rattle.seat_programs.specs.TableSteps.{TableStep, OnChain, SwapHead}
use Rattle.seat_programs.specs.Cores.{Core, found_at}
use Rattle.seat_programs.specs.StepTables.{word_of}
use Rattle.seat_programs.specs.Ticks.{Moment, IsAnswered}
use Rattle.seat_programs.specs.StepTables.{row, hand_at}
use Rattle.seat_programs.specs.StepViews.{by_claim}
use Rattle.seat_programs.specs.StepsOfChain.{exchanged}
use Rattle.seat_programs.specs.StepTables.{May}
use Rattle.program_steps.specs.SoundSeats.{Sound, AreFew, MOST_PLACES, views_after, IsFitting}
use Rattle.program_steps.specs.TicksLeftAtMost.{Lasts, MOST_PAID}
use Rattle.program_steps.proofs.Leaves.{is_exchange, row_leaves, plan_stays, lists_stay}
use Rattle.program_steps.proofs.TickCases.{tick_keeps_marks}
use Rattle.sock_words.specs.PackedWords.{IDLE}
use Rattle.sock_words.specs.Totals.{total}

-- ## What each step leaves

-- each step but the exchange leaves the plan, the words that were found, and the accepted messages
pub row_same : (p : Plan) (call : TableStep) (found : ℕ) (hand : Hand) (v : View) → is_exchange call ≡ false → SameNotes v (row p call found hand v)
row_same p call found hand v other_ = record { plan = plan_stays p v found hand call; found = ap (λ (w : View). w.found) (row_leaves p v found hand call); lists = lists_stay p v found hand call other_ }

-- ## A tick

-- a seat keeps one list of the messages that it had accepted, and it isn't longer than it may be
abbrev pub IsFew : View → Type 0
IsFew v = (lists_of v ≤ 1) × AreShort v

few_set : (vs : List View) (i : ℕ) (w : View) → AreFew vs → IsFew w → AreFew (set vs i w)
few_set vs i w few is = record {
  few_seats = (let a = few.few_seats in omega (arith, length-set vs i w));
  short = λ j u at. ⊎_elim (λ y. subst IsFew y.1 is) (λ y. few.short j u y.1) (at_set vs i j w u at);
}

few_lists : (v w : View) → w.lists ≡ v.lists → IsFew v → IsFew w
few_lists v w same is = subst (λ (ls : List (List Entry)). (length ls ≤ 1) × ((n : ℕ) (l : List Entry) → get_elem? ls n ≡ some l → length l ≤ MOST_ACCEPTED)) (sym same) is

-- a seat that may accept one message more
abbrev pub IsShorter : View → Type 0
IsShorter v = (made : List Entry) (taken_in : List (List Entry)) → v.lists ≡ made ∷ taken_in → length made < MOST_ACCEPTED

few_row : (p : Plan) (v : View) (call : TableStep) (found : ℕ) (hand : Hand) → May p v call → IsShorter v → IsFew v → IsFew (row p call found hand v)
few_row p v (OnChain (SwapHead i own)) found hand may short is = let x = may.1 in
    subst (λ cs. IsFew (by_claim cs (exchanged found hand v) v)) (sym x.claims)
    (either_way (nat_lt found IDLE) (queued v x.claim found) (righted v x.claim found hand.took hand.next) IsFew
    (accepts (queued v x.claim found) (entry_of x.claim found) refl) (accepts (righted v x.claim found hand.took hand.next) (entry_of x.claim (found - IDLE)) refl))
  where
    accepts : (w : View) (e : Entry) → w.lists ≡ more v.lists e → IsFew w
    accepts w e grown = let x = may.1 in let a = accept_short v w x.made x.taken_in e x.lists grown (short x.made x.taken_in x.lists) is.1 in let n = is.0 in (omega (arith, a.0), a.1)
few_row p v call found hand may short is = few_lists v (row p call found hand v) (row_same p call found hand v refl).lists is

-- a tick of any seat keeps it so
pub few_ticks : (p : Plan) (c : Core) (vs : List View) (m : Moment) → Sound p c vs → IsAnswered c m → IsFitting p c m → ((i : ℕ) (v : View) → get_elem? vs i ≡ some v → IsShorter v) → AreFew vs → AreFew (views_after p c vs m)
few_ticks p c vs m sound answered fitting shorter few = tick_keeps_marks p c vs m sound answered fitting (λ c' vs'. AreFew vs') few
    (λ seat v call next at_seat at_view is goes. few_set vs m.seat (row p call (found_at c.words (word_of p call)) (hand_at p c.words c.homes call) v) few
    (few_row p v call (found_at c.words (word_of p call)) (hand_at p c.words c.homes call) goes.0 (shorter m.seat v at_view) (few.short m.seat v at_view)))
    (λ seat v program rights hand hs a at_seat at_view comes. few_set vs m.seat (record v { rights = rights }) few (few.short m.seat v at_view))

-- where so few ticks are left, each seat may accept one message more
pub lasts_shorter : (p : Plan) (c : Core) (vs : List View) (n : ℕ) → Lasts p c vs n → n < MOST_PAID → (i : ℕ) (v : View) → get_elem? vs i ≡ some v → IsShorter v
lasts_shorter p c vs n lasts small i v at made taken_in lists = let paid = lasts.sum in
    omega (arith, paid, small, term_le (λ (u : View). total (λ (l : List Entry). length l) u.lists) vs i v at, ap (total (λ (l : List Entry). length l)) lists)

pub few_lasts : (p : Plan) (c : Core) (vs : List View) (m : Moment) (n : ℕ) → Sound p c vs → IsAnswered c m → IsFitting p c m → Lasts p c vs n → n < MOST_PAID → AreFew vs → AreFew (views_after p c vs m)
few_lasts p c vs m n sound answered fitting lasts small few = few_ticks p c vs m sound answered fitting (lasts_shorter p c vs n lasts small) few

-- ## Numbers that fit their words

-- as many lists as seats, at most
all_lists : (vs : List View) → ((i : ℕ) (v : View) → get_elem? vs i ≡ some v → IsFew v) → total lists_of vs ≤ length vs
all_lists vs each = omega (arith, total_bound lists_of 1 vs (λ i v at. (each i v at).0))

module _ (p : Plan) (s : State Home View) (o : Lawful (λ home. home) p s) (i : ℕ) (v : View) (at : get_elem? s.views i ≡ some v) (n : ℕ) (r : Right) (has : get_elem? v.rights n ≡ some r) where
  held : Held (memory p o.slot s.words) (tokens s.views) (on r.link o.log) (o.freed r.link) (o.places r.link) r
  held = (held_of o.chains r.link r (right_in o i n v r at has) (right_alone o i n v r at has)).1

  -- the ticket of the last message that a seat has to write
  pub last_small : r.last < IDLE
  last_small = let h = held in let some_ = h.some_noted in let fits = h.fits.2 in let narrow = o.fits.narrow in let back : suc (h.counts.noted - 1) ≡ h.counts.noted = omega arith in
      let e = nth_some (on r.link o.log) (h.counts.noted - 1) (omega arith) in let size = in_size o.chains r.link (h.counts.noted - 1) e.0 e.1 in
      let request = size.1 in let generation = size.2 in omega (arith, e.2, ap (nth (on r.link o.log)) back, h.last_is)

  -- the place of a message that a seat writes
  pub places_small : AreFew s.views → (now : ℕ) → r.stage ≡ Writes now → r.places < MOST_PLACES
  places_small few now stage = let seats = few.few_seats in
      omega (arith, writes_left o i n v r at has now stage, on_shorter r.link o.log, few_log s.views o.log o.authors (omega (arith, seats, all_lists s.views few.short)) (λ j u g. (few.short j u g).1))
