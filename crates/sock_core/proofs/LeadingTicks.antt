-- Ticks of a seat up to its first step of a kind, or to where it waits or has no step left.
use Rattle.std.proofs.Common.{◌≡◌, ◌≢◌, ℕ, Bool, true, false, List, [], ◌∷◌, ◌++◌, refl, sym, ◌∙◌, subst, inl, inr}
use Rattle.std.proofs.lemmas.Bool.{true≢false}
use Rattle.std.proofs.lemmas.Option.{same_Some}
use Rattle.std.specs.Prelude as std
use Rattle.std.specs.Prelude.{Some, None}
use mathlib.Core.Option.{Option, some, none}
use lib.ListN.{get_elem?}
use Rattle.sock_words.specs.declared.kind.Kind.{Kind}
use Rattle.sock_words.specs.KindText.{kind_text}
use Rattle.sock_words.proofs.KindNameLookup.{found_by_name}
use Rattle.sock_words.specs.declared.plain.Plan.{Plan}
use Rattle.seat_programs.specs.Programs.{Program, Write, Round}
use Rattle.seat_programs.specs.LoopRounds.{kind_of_round}
use Rattle.seat_programs.specs.Cores.{Core, SeatState}
use Rattle.seat_programs.specs.Ticks.{Answer, Moment, ticked, run, waits_at, waits}
use Rattle.seat_programs.specs.ScheduledRuns.{head_kind, kind_in, next_kind, IsAtRest, LeadsUpTo}
use Rattle.machine_model.specs.declared.tick.On.{On}
use Rattle.machine_model.specs.declared.tick.Tick.TheVariants as ticks
use Rattle.machine_model.specs.MachineLinks.{Taken, Given}
use Rattle.machine_model.specs.Machines.{MachineState, core_with}
use Rattle.machine_model.specs.MachineRuns.{SameTable, SameLinks, Follows, Made, Ticked, TickedWith, MadeByTicks, LedWith, Led}
use Rattle.machine_ticks.proofs.JoiningRuns.{follows_none, follows_join}
use Rattle.machine_model.proofs.Same.{same_table_none, same_table_join, same_links_none, same_links_join}
use Rattle.machine_ticks.proofs.RestingTicks.{follows_idle}

-- ## Ticks of other kinds

-- these ticks of seat i were steps of other kinds
abbrev pub AreOthers : Plan → ℕ → List ℕ → Core → List Moment → Type 0
AreOthers p i kind c [] = Unit {0}
AreOthers p i kind c (m ∷ ms) = (m.seat ≡ i) × (k : Kind) × (next_kind c i ≡ Some k) × (waits p c m ≡ false) × (kind_text k ≢ kind) × AreOthers p i kind (ticked p c m) ms

module _ (p : Plan) (i : ℕ) (kind : List ℕ) where
  others_more : (c : Core) (ms : List Moment) (m : Moment) (k : Kind) → AreOthers p i kind c ms → m.seat ≡ i → next_kind (run p c ms) i ≡ Some k → waits p (run p c ms) m ≡ false → kind_text k ≢ kind →
      AreOthers p i kind c (ms ++ m ∷ [])
  others_more c [] m k others is next moves other = (is, k, next, moves, other, tt)
  others_more c (n ∷ ns) m k others is next moves other = (others.0, others.1, others.2, others.3, others.4, others_more (ticked p c n) ns m k others.5 is next moves other)

  -- what leads up from behind them leads up from before them
  leads_on : (c : Core) (ms ns : List Moment) → AreOthers p i kind c ms → LeadsUpTo p i kind (run p c ms) ns → LeadsUpTo p i kind c (ms ++ ns)
  leads_on c [] ns others leads = leads
  leads_on c (m ∷ ms) ns others leads = (others.0, others.1, others.2, inr (others.3, others.4, leads_on (ticked p c m) ms ns others.5 leads))

-- kinds of one name are one kind
one_kind : (j k : Kind) → kind_text j ≡ kind_text k → j ≡ k
one_kind j k same = same_Some j k (sym (found_by_name (kind_text k) j same) ∙ found_by_name (kind_text k) k refl)

-- a seat that waits has a step
waits_in : (p : Plan) (c : Core) (answer : Answer) (program : Program) → waits_at p c answer program ≡ true → (k : Kind) × (kind_in program ≡ Some k)
waits_in p c answer (Write w after) is = (head_kind w, refl)
waits_in p c answer (Round head next) is = (kind_of_round head, refl)
waits_in p c answer _ is = absurd (true≢false (sym is))

waits_by : (p : Plan) (c : Core) (answer : Answer) (q : Option SeatState) → elim q as (λ o. Bool) [ none ↦ false | some seat ↦ waits_at p c answer seat.program ] ≡ true
    → (k : Kind) × (elim q as (λ o. std.Option Kind) [ none ↦ None | some seat ↦ kind_in seat.program ] ≡ Some k)
waits_by p c answer none is = absurd (true≢false (sym is))
waits_by p c answer (some seat) is = waits_in p c answer seat.program is

has_step : (p : Plan) (c : Core) (m : Moment) → waits p c m ≡ true → (k : Kind) × (next_kind c m.seat ≡ Some k)
has_step p c m is = waits_by p c m.answer (get_elem? c.seats m.seat) is

-- ## Of a machine

-- ticks of the seat so far, none of which was a step of this kind
abbrev pub PassedWith : MachineState → MachineState → ℕ → Kind → Taken → Given → Type 0
PassedWith old new seat kind = MadeByTicks (λ p. AreOthers p seat (kind_text kind)) old new

abbrev pub Passed : MachineState → MachineState → ℕ → Kind → Type 0
Passed old new seat kind = Made old new (PassedWith old new seat kind)

pub led_none : (m : MachineState) (i : ℕ) (kind : Kind) → Passed m m i kind
led_none m i kind = (same_table_none m, same_links_none m, λ took gave agrees agrees_gave. record { moments = []; is = tt; follows = follows_none m took gave agrees agrees_gave })

module _ (a b c : MachineState) (i : ℕ) (kind : Kind) where
  module _ (took : Taken) (gave : Given) (table : SameTable a b) (links : SameLinks a b) (after : SameLinks b c) (r : PassedWith a b i kind took gave) where
    abbrev here : Core
    here = core_with b r.follows.later r.follows.later_gave

    abbrev passed_core : Core
    passed_core = run a.plan (core_with a took gave) r.moments

    -- what a tick was where it was made, it was behind the run
    behind : (P : Plan → Core → Type 0) → P b.plan here → P a.plan passed_core
    behind P h = subst (λ (d : Core). P a.plan d) r.follows.core (subst (λ (p : Plan). P p here) table.plan h)

    led_with : (ms : List Moment) → LeadsUpTo a.plan i (kind_text kind) passed_core ms → Follows b c r.follows.later r.follows.later_gave ms → LedWith a c i kind took gave
    led_with ms leads g = record {
      moments = r.moments ++ ms;
      is = leads_on a.plan i (kind_text kind) (core_with a took gave) r.moments ms r.is leads;
      follows = follows_join a b c took gave r.moments ms table links after r.follows g;
    }

    passed_with : (k : Kind) → k ≢ kind → TickedWith b c i (ticks.Moved k) r.follows.later r.follows.later_gave → PassedWith a c i kind took gave
    passed_with k other t = record {
      moments = r.moments ++ t.moment ∷ [];
      is = others_more a.plan i (kind_text kind) (core_with a took gave) r.moments t.moment k r.is t.is_of
          (behind (λ p d. next_kind d i ≡ Some k) (subst (λ (j : ℕ). next_kind here j ≡ Some k) t.is_of t.is.0))
          (behind (λ p d. waits p d t.moment ≡ false) t.is.1) (λ same. other (one_kind k kind same));
      follows = follows_join a b c took gave r.moments (t.moment ∷ []) table links after r.follows t.follows;
    }

    here_with : TickedWith b c i (ticks.Moved kind) r.follows.later r.follows.later_gave → LedWith a c i kind took gave
    here_with t = led_with (t.moment ∷ [])
        (t.is_of, kind, behind (λ p d. next_kind d i ≡ Some kind) (subst (λ (j : ℕ). next_kind here j ≡ Some kind) t.is_of t.is.0), inl (inr refl, refl))
        t.follows

    waits_with : (on : On) → TickedWith b c i (ticks.Waits on) r.follows.later r.follows.later_gave → LedWith a c i kind took gave
    waits_with on t = let step = has_step b.plan here t.moment t.is.0 in led_with (t.moment ∷ []) (
      t.is_of,
      step.0,
      behind (λ p d. next_kind d i ≡ Some step.0) (subst (λ (j : ℕ). next_kind here j ≡ Some step.0) t.is_of step.1),
      inl (inl (behind (λ p d. waits p d t.moment ≡ true) t.is.0), refl),
    )
        t.follows

    idle_with : TickedWith b c i ticks.Idle r.follows.later r.follows.later_gave → LedWith a c i kind took gave
    idle_with t = led_with [] (behind (λ p d. IsAtRest d i) (subst (IsAtRest here) t.is_of t.is)) (follows_idle b c i r.follows.later r.follows.later_gave t)

  -- one more step of another kind
  pub led_more : (k : Kind) → Passed a b i kind → Ticked b c i (ticks.Moved k) → k ≢ kind → Passed a c i kind
  led_more k r t other = (
    same_table_join a b c r.0 t.0,
    same_links_join a b c r.1 t.1,
    λ took gave agrees agrees_gave. let first = r.2 took gave agrees agrees_gave in passed_with took gave r.0 r.1 t.1 first k other (t.2 first.follows.later first.follows.later_gave first.follows.agrees first.follows.agrees_gave),
  )

  -- the step of this kind
  pub led_here : Passed a b i kind → Ticked b c i (ticks.Moved kind) → Led a c i kind
  led_here r t = (
    same_table_join a b c r.0 t.0,
    same_links_join a b c r.1 t.1,
    λ took gave agrees agrees_gave. let first = r.2 took gave agrees agrees_gave in here_with took gave r.0 r.1 t.1 first (t.2 first.follows.later first.follows.later_gave first.follows.agrees first.follows.agrees_gave),
  )

  -- the seat waits
  pub led_waits : (on : On) → Passed a b i kind → Ticked b c i (ticks.Waits on) → Led a c i kind
  led_waits on r t = (
    same_table_join a b c r.0 t.0,
    same_links_join a b c r.1 t.1,
    λ took gave agrees agrees_gave. let first = r.2 took gave agrees agrees_gave in waits_with took gave r.0 r.1 t.1 first on (t.2 first.follows.later first.follows.later_gave first.follows.agrees first.follows.agrees_gave),
  )

  -- it has no step left
  pub led_idle : Passed a b i kind → Ticked b c i ticks.Idle → Led a c i kind
  led_idle r t = (
    same_table_join a b c r.0 t.0,
    same_links_join a b c r.1 t.1,
    λ took gave agrees agrees_gave. let first = r.2 took gave agrees agrees_gave in idle_with took gave r.0 r.1 t.1 first (t.2 first.follows.later first.follows.later_gave first.follows.agrees first.follows.agrees_gave),
  )
