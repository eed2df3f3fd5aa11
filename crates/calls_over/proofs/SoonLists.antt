-- What a link accepted stands in the lists of the seats for good: each tick keeps the entries of all lists, and each entry of the log stands in one.
use Rattle.std.proofs.Common.{◌≡◌, ◌≢◌, ℕ, zero, suc, ◌-◌, ◌<◌, cond, eq-eqb, ne_eqb, nat_lt, Bool, true, false, List, [], ◌∷◌, ◌++◌, length, map, set, refl, sym, ap, ◌∙◌, arith}
use mathlib.Core.Logic.{dite}
use mathlib.Core.Option.{some, some-injective, some-ne-none}
use native.Mathlib.Decide.{ℕ_discrete}
use lib.ListN.{get_elem?}
use Rattle.atomic_table.proofs.Lists.{set_here, set_else}
use Rattle.chain_steps.proofs.TicketLists.{at_length, at_some}
use Rattle.sock_words.specs.declared.plain.Plan.{Plan}
use Rattle.sock_model.specs.declared.chain.Claim.{Claim}
use Rattle.sock_model.specs.declared.chain.Entry.{Entry}
use Rattle.sock_model.specs.declared.view.Hand.{Hand}
use Rattle.sock_model.specs.declared.view.View.{View}
use Rattle.sock_model.specs.Authors.{pick}
use Rattle.sock_model.specs.ChainRows.{more, entry_of, queued, righted}
use Rattle.sock_model.specs.LawfulSockets.{Lawful}
use Rattle.seat_programs.specs.TableSteps.{TableStep, OnChain, SwapHead}
use Rattle.seat_programs.specs.Cores.{Core, found_at}
use Rattle.seat_programs.specs.StepTables.{word_of}
use Rattle.seat_programs.specs.Ticks.{Moment, IsAnswered, AreAnswered, ticked}
use Rattle.seat_programs.specs.StepTables.{row, hand_at}
use Rattle.seat_programs.specs.StepViews.{by_claim}
use Rattle.seat_programs.specs.StepsOfChain.{exchanged}
use Rattle.seat_programs.specs.StepsOfMessages.{took_message}
use Rattle.seat_programs.specs.StepsOfLinks.{link_away, link_home_again, took_bytes}
use Rattle.served_fits.specs.Below.programs_allowed.specs.program_steps.specs.SoundSeats.{state, Sound, AreFitting, views_after, views_along}
use Rattle.served_fits.specs.Below.programs_allowed.specs.program_steps.proofs.TickCases.{tick_cases}
use Rattle.served_fits.specs.Below.programs_allowed.specs.sock_runs.proofs.LinkTicks.{RetriesGo}
use Rattle.served_fits.specs.Below.programs_allowed.specs.sock_runs.proofs.TicksKeepSeatsSound.{sound_ticks}
use Rattle.served_fits.specs.Below.programs_allowed.specs.runs_end.proofs.WalksLeft.{message_lists, away_lists, home_lists, put_lists}
use Rattle.served_fits.specs.Below.outcome_ticks.proofs.ClaimAndAcceptedMessages.{row_lists}
use Rattle.sock_words.specs.PackedWords.{IDLE}

-- ## Lists of one seat

-- the entry stands in a list of some seat
pub record Stood (vs : List View) (e : Entry) : Type 0 where
  pub seat : ℕ
  pub list : ℕ
  pub place : ℕ
  pub view : View
  pub made : List Entry
  pub here : get_elem? vs seat ≡ some view
  pub lists : get_elem? view.lists list ≡ some made
  pub stands : get_elem? made place ≡ some e

-- the lists of one view are the front of those of the other
abbrev GrowsTo : List (List Entry) → List (List Entry) → Type 0
GrowsTo xs ys = (a n : ℕ) (l : List Entry) (e : Entry) → get_elem? xs a ≡ some l → get_elem? l n ≡ some e → (m : List Entry) × (get_elem? ys a ≡ some m) × (get_elem? m n ≡ some e)

same_lists : (xs ys : List (List Entry)) → ys ≡ xs → GrowsTo xs ys
same_lists xs ys same a n l e at there = (l, ap (λ zs. get_elem? zs a) same ∙ at, there)

at_front : (l : List Entry) (n : ℕ) (x e : Entry) → get_elem? l n ≡ some e → get_elem? (l ++ x ∷ []) n ≡ some e
at_front [] n x e there = absurd (some-ne-none e (sym there))
at_front (y ∷ l) zero x e there = there
at_front (y ∷ l) (suc n) x e there = at_front l n x e there

more_lists : (xs : List (List Entry)) (x : Entry) → GrowsTo xs (more xs x)
more_lists [] x a n l e at there = absurd (some-ne-none l (sym at))
more_lists (y ∷ xs) x zero n l e at there = (y ++ x ∷ [], refl, at_front y n x e (ap (λ z. get_elem? z n) (some-injective y l at) ∙ there))
more_lists (y ∷ xs) x (suc a) n l e at there = (l, at, there)

-- a step leaves the lists, or adds an entry to one
row_grows : (p : Plan) (v : View) (found : ℕ) (hand : Hand) (call : TableStep) → GrowsTo v.lists (row p call found hand v).lists
row_grows p v found hand (OnChain (SwapHead i own)) = by_claims v.claims
  where
    by_head : (b : Bool) (c : Claim) → GrowsTo v.lists (cond b (queued v c found) (righted v c found hand.took hand.next)).lists
    by_head true c = more_lists v.lists (entry_of c found)
    by_head false c = more_lists v.lists (entry_of c (found - IDLE))

    by_claims : (cs : List Claim) → GrowsTo v.lists (by_claim cs (exchanged found hand v) v).lists
    by_claims [] = same_lists v.lists v.lists refl
    by_claims (c ∷ cs) = by_head (nat_lt found IDLE) c
row_grows p v found hand call = same_lists v.lists (row p call found hand v).lists (row_lists p v found hand call tt)

-- ## Ticks

abbrev Stay : List View → List View → Type 0
Stay vs ws = (e : Entry) → Stood vs e → Stood ws e

set_stay : (vs : List View) (i : ℕ) (v w : View) → get_elem? vs i ≡ some v → GrowsTo v.lists w.lists → Stay vs (set vs i w)
set_stay vs i v w at grows e s = dite (ℕ_discrete s.seat i) own other
  where
    low : i < length vs
    low = at_length vs i v at

    own : s.seat ≡ i → Stood (set vs i w) e
    own same = let v_is : s.view ≡ v = some-injective s.view v (sym s.here ∙ (ap (get_elem? vs) same ∙ at)) in
        let g = grows s.list s.place s.made e (ap (λ (x : View). get_elem? x.lists s.list) (sym v_is) ∙ s.lists) s.stands in
        record { seat = i; list = s.list; place = s.place; view = w; made = g.0; here = set_here vs i w low; lists = g.1; stands = g.2 }

    other : s.seat ≢ i → Stood (set vs i w) e
    other far = record { seat = s.seat; list = s.list; place = s.place; view = s.view; made = s.made; here = set_else vs i s.seat w far ∙ s.here; lists = s.lists; stands = s.stands }

-- each tick keeps what stands in the lists
tick_stay : (p : Plan) (c : Core) (vs : List View) (m : Moment) → Sound p c vs → IsAnswered c m → Stay vs (views_after p c vs m)
tick_stay p c vs m sound answered = tick_cases p c vs m sound answered (λ d ws. Stay vs ws) (λ e s. s)
    (λ seat v call next at_seat at_view is goes. set_stay vs m.seat v (row p call (found_at c.words (word_of p call)) (hand_at p c.words c.homes call) v) at_view (row_grows p v (found_at c.words (word_of p call)) (hand_at p c.words c.homes call) call))
    (λ seat v q next heading bytes at_seat at_view is goes lies. set_stay vs m.seat v (took_message heading bytes v) at_view (same_lists v.lists (took_message heading bytes v).lists (message_lists v heading bytes)))
    (λ seat v k next took n at_seat at_view is goes lies. set_stay vs m.seat v (link_away v) at_view (same_lists v.lists (link_away v).lists (away_lists v)))
    (λ seat v k n after at_seat at_view is goes. set_stay vs m.seat v (link_home_again v) at_view (same_lists v.lists (link_home_again v).lists (home_lists v)))
    (λ seat v k asked bytes next answer at_seat at_view is goes answer_is fits. set_stay vs m.seat v (took_bytes answer v) at_view (same_lists v.lists (took_bytes answer v).lists (put_lists v answer)))
    (λ seat v k next answer at_seat at_view is goes answer_is. λ e s. s)
    (λ seat v step next found at_seat at_view is goes found_is. λ e s. s)

-- so what stands there before some ticks stands there behind them
pub run_stay : (p : Plan) → RetriesGo p → (ms : List Moment) (c : Core) (vs : List View) → Sound p c vs → AreAnswered p c ms → AreFitting p c ms → (e : Entry) → Stood vs e → Stood (views_along p c vs ms) e
run_stay p go [] c vs sound answered fitting e s = s
run_stay p go (m ∷ ms) c vs sound answered fitting e s = run_stay p go ms (ticked p c m) (views_after p c vs m) (sound_ticks p go c vs m sound answered.0 fitting.0) answered.1 fitting.1 e (tick_stay p c vs m sound answered.0 e s)

-- ## The log

-- an entry stands among those of its author
picked : (a : ℕ) (by : List ℕ) (log : List Entry) (q : ℕ) (e : Entry) → get_elem? by q ≡ some a → get_elem? log q ≡ some e → (n : ℕ) × (get_elem? (pick a by log) n ≡ some e)
picked a [] log q e g h = absurd (some-ne-none a (sym g))
picked a (b ∷ bs) [] q e g h = absurd (some-ne-none e (sym h))
picked a (b ∷ bs) (x ∷ xs) zero e g h = (0, ap (λ t. get_elem? (cond t (x ∷ pick a bs xs) (pick a bs xs)) 0) (eq-eqb b a (some-injective b a g)) ∙ h)
picked a (b ∷ bs) (x ∷ xs) (suc q) e g h = let r = picked a bs xs q e g h in dite (ℕ_discrete b a)
    (λ y. (suc r.0, ap (λ t. get_elem? (cond t (x ∷ pick a bs xs) (pick a bs xs)) (suc r.0)) (eq-eqb b a y) ∙ r.1))
    (λ n. (r.0, ap (λ t. get_elem? (cond t (x ∷ pick a bs xs) (pick a bs xs)) r.0) (ne_eqb b a n) ∙ r.1))

at_mapped : {A : Type 0} {B : Type 0} (f : A → B) (xs : List A) (i : ℕ) (x : A) → get_elem? xs i ≡ some x → get_elem? (map f xs) i ≡ some (f x)
at_mapped f [] i x e = absurd (some-ne-none x (sym e))
at_mapped f (y ∷ xs) zero x e = ap (λ z. some (f z)) (some-injective y x e)
at_mapped f (y ∷ xs) (suc i) x e = at_mapped f xs i x e

-- each entry of the log stands in a list
pub log_stood : (p : Plan) (c : Core) (vs : List View) (o : Lawful (λ home. home) p (state c vs)) (q : ℕ) (e : Entry) → get_elem? o.log q ≡ some e → Stood vs e
log_stood p c vs o q e g = let b = at_some o.authors.by q (let long = o.authors.long in let low = at_length o.log q e g in omega (arith, long, low)) in
    let n = o.authors.named q b.0 b.1 in let v = at_some vs n.0 n.2 in let t = picked b.0 o.authors.by o.log q e b.1 g in record {
      seat = n.0;
      list = n.1;
      place = t.0;
      view = v.0;
      made = pick b.0 o.authors.by o.log;
      here = v.1;
      lists = ap (λ l. get_elem? l n.1) (o.authors.lists_are n.0 v.0 v.1) ∙ at_mapped (λ a. pick a o.authors.by o.log) (o.authors.names n.0) n.1 b.0 n.3;
      stands = t.1;
    }
