-- What a seat has still to do doesn't depend on what the links took and gave; and a tick that was idle.
use Rattle.std.proofs.Common.{◌≡◌, ℕ, zero, suc, ◌+◌, ◌<◌, ◌≤◌, List, [], ◌∷◌, ◌++◌, map, length, replicate, refl, sym, ap, ap₂, ◌∙◌, subst, append-nil, arith}
use Rattle.std.proofs.lemmas.List.{map-append}
use Rattle.std.specs.Prelude as std
use Rattle.std.specs.Prelude.{None}
use mathlib.Core.Option.{some, none, some-injective, some-ne-none}
use lib.ListN.{get_elem?}
use Rattle.sock_words.specs.declared.kind.Kind.{Kind}
use Rattle.sock_words.specs.declared.plain.Plan.{Plan}
use Rattle.machine_model.specs.run_theorems.specs.Heard.{heard_at, taken_at, heard_in, taken_in}
use Rattle.seat_programs.specs.declared.task.Sizes.{Sizes}
use Rattle.seat_programs.specs.Programs.{Program}
use Rattle.seat_programs.specs.Cores.{Core, SeatState}
use Rattle.seat_programs.specs.Ticks.{Answer, Moment, quiet, seats_of, ticked, run}
use Rattle.seat_programs.specs.ScheduledRuns.{kind_in, IsAtRest}
use Rattle.reader_seats.specs.ReaderState.{ReaderData, reader_program}
use Rattle.client_seats.specs.ClientSeatState.{SeatData, seat_program}
use Rattle.machine_model.specs.declared.tick.Tick.TheVariants as ticks
use Rattle.machine_model.specs.MachineLinks.{LinksData, Taken, Given, IsShapedSo}
use Rattle.machine_model.specs.Machines.{MachineState, READERS, core_with, machine_sizes, between, resting, clients_with, readers_with, seats_with}
use Rattle.machine_model.specs.MachineRuns.{Follows, Ticked, TickedWith, Ran}
use Rattle.machine_ticks.proofs.JoiningRuns.{rests, rest_answered, rest_heard, rest_taken, rests_on, rests_heard, rests_taken, rests_shaped, rests_answered, seats_quiet, quiet_prompt, quiet_closes, quiet_offers, quiet_broken, shows_none, shows_idle}
use Rattle.machine_model.proofs.Same.{same_table_none, same_links_none}

-- the seat has no step left, whatever its links took and gave
abbrev pub Rests : MachineState → ℕ → Type 0
Rests m i = (took : Taken) (gave : Given) → IsAtRest (core_with m took gave) i

-- ## Whatever the links took and gave

abbrev kind_at : List SeatState → ℕ → std.Option Kind
kind_at seats i = elim (get_elem? seats i) as (λ o. std.Option Kind) [ none ↦ None | some seat ↦ kind_in seat.program ]

abbrev programs_of : List SeatState → List Program
programs_of seats = map (λ (s : SeatState). s.program) seats

kind_by : (seats : List SeatState) (i : ℕ) → kind_at seats i ≡ elim (get_elem? (programs_of seats) i) as (λ o. std.Option Kind) [ none ↦ None | some program ↦ kind_in program ]
kind_by [] i = refl
kind_by (seat ∷ seats) zero = refl
kind_by (seat ∷ seats) (suc i) = kind_by seats i

module _ (p : Plan) (links : LinksData) (t u : Taken) where
  clients_anyhow : (sizes : Sizes) (i : ℕ) (seats : List SeatData) → programs_of (clients_with p links t sizes i seats) ≡ programs_of (clients_with p links u sizes i seats)
  clients_anyhow sizes i [] = refl
  clients_anyhow sizes i (seat ∷ seats) = ap (λ (ps : List Program). seat_program sizes seat ∷ ps) (clients_anyhow sizes (i + 1) seats)

  readers_anyhow : (calls : List ℕ) (i : ℕ) (readers : List ReaderData) → programs_of (readers_with p links t calls i readers) ≡ programs_of (readers_with p links u calls i readers)
  readers_anyhow calls i [] = refl
  readers_anyhow calls i (reader ∷ readers) = ap (λ (ps : List Program). reader_program calls reader ∷ ps) (readers_anyhow calls (i + 1) readers)

programs_anyhow : (m : MachineState) (t u : Taken) → programs_of (seats_with m t) ≡ programs_of (seats_with m u)
programs_anyhow m t u =
    let none_ = replicate (between m.seats) resting in
    map-append (λ (s : SeatState). s.program) (clients_with m.plan m.links t (machine_sizes m) 0 m.seats) (none_ ++ readers_with m.plan m.links t m.calls READERS m.readers)
    ∙ ap₂ (λ (ps qs : List Program). ps ++ qs) (clients_anyhow m.plan m.links t u (machine_sizes m) 0 m.seats)
    (map-append (λ (s : SeatState). s.program) none_ (readers_with m.plan m.links t m.calls READERS m.readers)
    ∙ ap (λ (ps : List Program). programs_of none_ ++ ps) (readers_anyhow m.plan m.links t u m.calls READERS m.readers)
    ∙ sym (map-append (λ (s : SeatState). s.program) none_ (readers_with m.plan m.links u m.calls READERS m.readers)))
    ∙ sym (map-append (λ (s : SeatState). s.program) (clients_with m.plan m.links u (machine_sizes m) 0 m.seats) (none_ ++ readers_with m.plan m.links u m.calls READERS m.readers))

pub rest_anyhow : (m : MachineState) (t u : Taken) (g h : Given) (i : ℕ) → IsAtRest (core_with m t g) i → IsAtRest (core_with m u h) i
rest_anyhow m t u g h i rest = kind_by (seats_with m u) i
    ∙ ap (λ (ps : List Program). elim (get_elem? ps i) as (λ o. std.Option Kind) [ none ↦ None | some program ↦ kind_in program ]) (programs_anyhow m u t)
    ∙ sym (kind_by (seats_with m t) i) ∙ rest

-- ## A tick that was idle

pub idle_core : (a b : MachineState) (i : ℕ) (took : Taken) (gave : Given) (t : TickedWith a b i ticks.Idle took gave) → core_with b t.follows.later t.follows.later_gave ≡ core_with a took gave
idle_core a b i took gave t = t.follows.core ∙ rests a.plan (core_with a took gave) t.moment t.is

pub follows_idle : (a b : MachineState) (i : ℕ) (took : Taken) (gave : Given) → TickedWith a b i ticks.Idle took gave → Follows a b took gave []
follows_idle a b i took gave t = record {
  answered = tt;
  always_ready = λ h. tt;
  closes = λ h. tt;
  offers = λ k serve end h. (tt, (t.follows.offers k serve end h).1);
  shapes = λ k shape so_far h. (tt, subst (IsShapedSo b.links k shape) (ap (λ (l : List Answer). so_far ++ l) (append-nil (heard_at (core_with a took gave) t.moment k) ∙ rest_heard (core_with a took gave) t.moment t.is k)) (t.follows.shapes k shape so_far h).1);
  so_far = t.follows.so_far;
  core = idle_core a b i took gave t;
  shows = shows_idle a b t.follows.shows refl (λ k. append-nil (heard_at (core_with a took gave) t.moment k) ∙ rest_heard (core_with a took gave) t.moment t.is k) (λ k. append-nil (taken_at (core_with a took gave) t.moment k) ∙ rest_taken (core_with a took gave) t.moment t.is k);
}

-- it is none at all
pub ran_through : (a b : MachineState) (i : ℕ) → Ticked a b i ticks.Idle → Ran a b []
ran_through a b i t = (t.0, t.1, λ took gave agrees agrees_gave. record { moments = []; is = refl; follows = follows_idle a b i took gave (t.2 took gave agrees agrees_gave) })

-- a tick of a seat that has no step left, which changes nothing
pub rest_ticks : (m : MachineState) (i : ℕ) → Rests m i → Ticked m m i ticks.Idle
rest_ticks m i rest = (
  same_table_none m,
  same_links_none m,
  λ took gave agrees agrees_gave. record {
    moment = quiet i;
    is_of = refl;
    is = rest took gave;
    follows = record {
      answered = (rest_answered (core_with m took gave) i (rest took gave), tt);
      always_ready = λ h. (λ e. absurd (cc), tt);
      closes = λ h. quiet_closes m.plan (core_with m took gave) 1 i;
      offers = λ k serve end h. (quiet_offers m.plan k serve end (core_with m took gave) 1 i, h);
      shapes = λ k shape so_far h. (
        rests_shaped m.plan (core_with m took gave) i (rest took gave) k shape 1 so_far,
        subst (IsShapedSo m.links k shape) (sym (ap (λ (l : List Answer). so_far ++ l) (append-nil (heard_at (core_with m took gave) (quiet i) k) ∙ rest_heard (core_with m took gave) (quiet i) (rest took gave) k) ∙ append-nil so_far)) h,
      );
      so_far = record { took = took; gave = gave; agrees = agrees; agrees_gave = agrees_gave };
      core = sym (rests m.plan (core_with m took gave) (quiet i) (rest took gave));
      shows = shows_none m m refl refl (λ k. append-nil (heard_at (core_with m took gave) (quiet i) k) ∙ rest_heard (core_with m took gave) (quiet i) (rest took gave) k)
          (λ k. append-nil (taken_at (core_with m took gave) (quiet i) k) ∙ rest_taken (core_with m took gave) (quiet i) (rest took gave) k);
    };
  },
)

-- ## Seats that stay

-- a seat 0 that stays is at rest as it was
first_rests_by : (p p' : Plan) (links links' : LinksData) (sizes sizes' : Sizes) (ss ss' : List SeatData) (others others' : Taken → List SeatState) → sizes' ≡ sizes → get_elem? ss' 0 ≡ get_elem? ss 0 → 0 < length ss → (t : Taken) →
    kind_at (clients_with p links t sizes 0 ss ++ others t) 0 ≡ None → kind_at (clients_with p' links' t sizes' 0 ss' ++ others' t) 0 ≡ None
first_rests_by p p' links links' sizes sizes' [] ss' others others' same stays some_ t rest = absurd (omega (arith, some_))
first_rests_by p p' links links' sizes sizes' (s ∷ ss) [] others others' same stays some_ t rest = absurd (some-ne-none s (sym stays))
first_rests_by p p' links links' sizes sizes' (s ∷ ss) (s' ∷ ss') others others' same stays some_ t rest =
    ap₂ (λ (z : Sizes) (x : SeatData). kind_in (seat_program z x)) same (some-injective s' s stays) ∙ rest

pub first_rests : (a b : MachineState) → machine_sizes b ≡ machine_sizes a → get_elem? b.seats 0 ≡ get_elem? a.seats 0 → 0 < length a.seats → Rests a 0 → Rests b 0
first_rests a b same stays some_ rest took gave = first_rests_by a.plan b.plan a.links b.links (machine_sizes a) (machine_sizes b) a.seats b.seats
    (λ t. replicate (between a.seats) resting ++ readers_with a.plan a.links t a.calls READERS a.readers) (λ t. replicate (between b.seats) resting ++ readers_with b.plan b.links t b.calls READERS b.readers) same stays some_ took (rest took gave)

-- no client stands behind the last one, up to the readers
beyond_clients : (p : Plan) (links : LinksData) (t : Taken) (sizes : Sizes) (first n : ℕ) (ss : List SeatData) (others : List SeatState) (i : ℕ) → length ss ≤ i → i < length ss + n →
    kind_at (clients_with p links t sizes first ss ++ (replicate n resting ++ others)) i ≡ None
beyond_clients p links t sizes first zero [] others i past inside = absurd (omega (arith, inside))
beyond_clients p links t sizes first (suc n) [] others zero past inside = refl
beyond_clients p links t sizes first (suc n) [] others (suc i) past inside = beyond_clients p links t sizes first n [] others i (omega arith) (omega (arith, inside))
beyond_clients p links t sizes first n (s ∷ ss) others zero past inside = absurd (omega (arith, past))
beyond_clients p links t sizes first n (s ∷ ss) others (suc i) past inside = beyond_clients p links t sizes (first + 1) n ss others i (omega (arith, past)) (omega (arith, inside))

pub between_rests : (m : MachineState) (i : ℕ) → length m.seats ≤ i → i < READERS → length m.seats ≤ READERS → Rests m i
between_rests m i past before few took gave = beyond_clients m.plan m.links took (machine_sizes m) 0 (between m.seats) m.seats (readers_with m.plan m.links took m.calls READERS m.readers) i past (omega (arith, before, few))

-- a tick that was idle is any number of such ticks
pub idle_ran : (a b : MachineState) (i : ℕ) → Ticked a b i ticks.Idle → (n : ℕ) → Ran a b (replicate n i)
idle_ran a b i t n = (
  t.0,
  t.1,
  λ took gave agrees agrees_gave. let w = t.2 took gave agrees agrees_gave in let c = core_with a took gave in let rest : IsAtRest c i = subst (IsAtRest c) w.is_of w.is in record {
    moments = replicate n (quiet i);
    is = seats_quiet n i;
    follows = record {
      answered = rests_answered a.plan c i rest n;
      always_ready = λ h. quiet_prompt n i;
      closes = λ h. quiet_closes a.plan c n i;
      offers = λ k serve end h. (quiet_offers a.plan k serve end c n i, (w.follows.offers k serve end h).1);
      shapes = λ k shape so_far h. (
        rests_shaped a.plan c i rest k shape n so_far,
        subst (IsShapedSo b.links k shape) (ap (λ (l : List Answer). so_far ++ l) (append-nil (heard_at c w.moment k) ∙ rest_heard c w.moment w.is k ∙ sym (rests_heard a.plan c i rest n k))) (w.follows.shapes k shape so_far h).1,
      );
      so_far = w.follows.so_far;
      core = idle_core a b i took gave w ∙ sym (rests_on a.plan c i rest n);
      shows = shows_idle a b w.follows.shows (quiet_broken a.plan c n i) (λ k. append-nil (heard_at c w.moment k) ∙ rest_heard c w.moment w.is k ∙ sym (rests_heard a.plan c i rest n k))
          (λ k. append-nil (taken_at c w.moment k) ∙ rest_taken c w.moment w.is k ∙ sym (rests_taken a.plan c i rest n k));
    };
  },
)

-- ## Seats that there aren't

gap_readers : (p : Plan) (links : LinksData) (t : Taken) (calls : List ℕ) (a n : ℕ) (rs : List ReaderData) (i : ℕ) → n + length rs ≤ i → kind_at (replicate n resting ++ readers_with p links t calls a rs) i ≡ None
gap_readers p links t calls a zero [] i past = refl
gap_readers p links t calls a zero (r ∷ rs) zero past = absurd (omega (arith, past))
gap_readers p links t calls a zero (r ∷ rs) (suc i) past = gap_readers p links t calls (a + 1) zero rs i (omega (arith, past))
gap_readers p links t calls a (suc n) rs zero past = absurd (omega (arith, past))
gap_readers p links t calls a (suc n) rs (suc i) past = gap_readers p links t calls a n rs i (omega (arith, past))

beyond_all : (p : Plan) (links : LinksData) (t : Taken) (sizes : Sizes) (calls : List ℕ) (first n a : ℕ) (ss : List SeatData) (rs : List ReaderData) (i : ℕ) → length ss + n + length rs ≤ i →
    kind_at (clients_with p links t sizes first ss ++ (replicate n resting ++ readers_with p links t calls a rs)) i ≡ None
beyond_all p links t sizes calls first n a [] rs i past = gap_readers p links t calls a n rs i (omega (arith, past))
beyond_all p links t sizes calls first n a (s ∷ ss) rs zero past = absurd (omega (arith, past))
beyond_all p links t sizes calls first n a (s ∷ ss) rs (suc i) past = beyond_all p links t sizes calls (first + 1) n a ss rs i (omega (arith, past))

-- behind the last reader there is none
pub beyond_rests : (m : MachineState) (i : ℕ) → length m.seats ≤ READERS → READERS + length m.readers ≤ i → Rests m i
beyond_rests m i few past took gave = beyond_all m.plan m.links took (machine_sizes m) m.calls 0 (between m.seats) READERS m.seats m.readers i (omega (arith, few, past))

-- ## Ticks of a seat that has no step left, whatever is answered in them

module _ (p : Plan) (i : ℕ) where
  unmoved : (n : ℕ) (c : Core) (ms : List Moment) → IsAtRest c i → seats_of ms ≡ replicate n i → (run p c ms ≡ c) × ((k : ℕ) → heard_in p c ms k ≡ []) × ((k : ℕ) → taken_in p c ms k ≡ [])
  unmoved n c [] rest e = (refl, λ k. refl, λ k. refl)
  unmoved zero c (m ∷ ms) rest e = absurd (cc)
  unmoved (suc n) c (m ∷ ms) rest e =
      let now : m.seat ≡ i = cc in
      let later : seats_of ms ≡ replicate n i = cc in
      let here = subst (IsAtRest c) (sym now) rest in
      let same = rests p c m here in
      let others = unmoved n c ms rest later in (
        ap (λ (d : Core). run p d ms) same ∙ others.0,
        λ k. ap (λ (l : List Answer). l ++ heard_in p (ticked p c m) ms k) (rest_heard c m here k) ∙ ap (λ (d : Core). heard_in p d ms k) same ∙ others.1 k,
        λ k. ap (λ (l : List Answer). l ++ taken_in p (ticked p c m) ms k) (rest_taken c m here k) ∙ ap (λ (d : Core). taken_in p d ms k) same ∙ others.2 k,
      )

-- they are as none
pub none_follows : (a b : MachineState) (took : Taken) (gave : Given) (i n : ℕ) (ms : List Moment) → IsAtRest (core_with a took gave) i → seats_of ms ≡ replicate n i → Follows a b took gave ms → Follows a b took gave []
none_follows a b took gave i n ms rest are f = let u = unmoved a.plan i n (core_with a took gave) ms rest are in record {
  answered = tt;
  always_ready = λ h. tt;
  closes = λ h. tt;
  offers = λ k serve end h. (tt, (f.offers k serve end h).1);
  shapes = λ k shape so_far h. (tt, subst (IsShapedSo b.links k shape) (ap (λ (l : List Answer). so_far ++ l) (u.1 k)) (f.shapes k shape so_far h).1);
  so_far = f.so_far;
  core = f.core ∙ u.0;
  shows = shows_idle a b f.shows refl u.1 u.2;
}
