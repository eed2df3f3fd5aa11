-- The lines of a schedule, one after another.
use Rattle.std.proofs.Common.{◌≡◌, ℕ, zero, suc, ◌+◌, ◌-◌, ◌*◌, ◌%◌, ◌≤◌, ◌<◌, List, [], ◌∷◌, ◌++◌, map, take, get_or, length, replicate, Option, Some, None, ap, sym, subst, refl, ◌∙◌, append_assoc, append-nil, arith, min, leb, true, false}
use Rattle.std.proofs.lemmas.List.{take_all, take_more, replicate-append-replicate}
use Rattle.std.proofs.lemmas.Bool.{leb-false, leb-true}
use Rattle.std.specs.List.{cons_option}
use Rattle.std.proofs.lemmas.List.Elements.{filter_map-append}
use Rattle.sock_words.specs.declared.kind.Kind.{Kind}
use Rattle.sock_words.specs.declared.plain.Plan.{Plan}
use Rattle.sock_words.specs.KindText.{kind_text}
use Rattle.brpc_model.specs.Items.{Item}
use Rattle.brpc_model.specs.DrawnSeatsAndScripts.{drawn, drawn_state, state_behind, seat_of, sim_seats_of}
use Rattle.brpc_model.specs.Operations.{Turn, Ticks, turn_of, schedule, seat_number, clients, link_names, operations}
use Rattle.script_items.specs.LineMeaning as meaning
use Rattle.script_items.specs.declared.line.Seat.{Seat}
use Rattle.script_draw.proofs.SeatLemmas.{seats_more, count_some}
use Rattle.script_draw.specs.DrawnSeats.{SeatDraws, seat_count}
use Rattle.seat_programs.specs.Cores.{Core}
use Rattle.seat_programs.specs.Ticks.{Moment, seats_of, run}
use Rattle.seat_programs.specs.ScheduledRuns.{IsAtRest, LeadsUpTo, Turns, Scheduled}
use Rattle.seat_programs.specs.ScriptSetupToEnding.{drawn_turns}
use Rattle.seat_programs.specs.Tasks.{plan_of}
use Rattle.machine_model.specs.MachineLinks.{Taken, Given}
use Rattle.machine_model.specs.Machines.{MachineState, core_with}
use Rattle.machine_model.specs.MachineRuns.{Ran}
use Rattle.script_run.specs.declared.mark.Mark.{Mark}
use Rattle.script_run.specs.declared.mark.Mark.TheVariants as marks
use Rattle.script_run.specs.Outlines.{meant, outlined}
use Rattle.script_run.specs.Played.{IsPlayable, HasPlayed, HasTurns}
use Rattle.sock_core.specs.machine_ticks.proofs.JoiningRuns.{ran_rest, ran_join, run_append, seats_append}
use Rattle.sock_core.specs.machine_ticks.proofs.RestingTicks.{none_follows}
use Rattle.script_run.proofs.Outlined.{schedule_same}
use Rattle.script_run.proofs.Playing.{as_played, then_played, none_played}
use Rattle.script_links.proofs.LinkNumbering.{map_more}
use Rattle.script_draw.proofs.DrawLemmas.{behind_more}

-- ## Ticks of one seat

-- one tick more
pub one_more_tick : (i n : ℕ) (a b c : MachineState) → HasPlayed (λ d moments. seats_of moments ≡ replicate n i) a b → HasPlayed (λ d moments. seats_of moments ≡ i ∷ []) b c
    → HasPlayed (λ d moments. seats_of moments ≡ replicate (n + 1) i) a c
one_more_tick i n a b c h k =
    then_played (λ d moments. seats_of moments ≡ replicate n i) (λ d moments. seats_of moments ≡ i ∷ []) (λ d moments. seats_of moments ≡ replicate (n + 1) i) a b c h k
    (λ d xs ys hx hy. seats_append xs ys ∙ ap (λ s. s ++ seats_of ys) hx ∙ ap (λ s. replicate n i ++ s) hy ∙ replicate-append-replicate n 1 i)

-- the ticks that are left
pub ticks_left : (i n k : ℕ) (a b c : MachineState) → k < n → HasPlayed (λ d moments. seats_of moments ≡ replicate k i) a b → ((m : ℕ) → HasPlayed (λ d moments. seats_of moments ≡ replicate m i) b c)
    → HasPlayed (λ d moments. seats_of moments ≡ replicate n i) a c
ticks_left i n k a b c inside h rest =
    then_played (λ d moments. seats_of moments ≡ replicate k i) (λ d moments. seats_of moments ≡ replicate (n - k) i) (λ d moments. seats_of moments ≡ replicate n i) a b c h (rest (n - k))
    (λ d xs ys hx hy. seats_append xs ys ∙ ap (λ s. s ++ seats_of ys) hx ∙ ap (λ s. replicate k i ++ s) hy ∙ replicate-append-replicate k (n - k) i
    ∙ ap (λ m. replicate m i) (let e : k + (n - k) ≡ n = omega (arith, inside) in e))

-- ## Seats whose numbers are too high

nowhere : (p : Plan) (i : ℕ) (kind : List ℕ) (c : Core) (moments : List Moment) → IsAtRest c i → LeadsUpTo p i kind c moments → moments ≡ []
nowhere p i kind c [] rest h = refl
nowhere p i kind c (m ∷ ms) rest h = let e = h.2 in cc

-- such a seat is as idle as that of the highest number
leads_of : (p : Plan) (m : MachineState) (took : Taken) (gave : Given) (i : ℕ) (kind : List ℕ) (moments : List Moment) → IsPlayable m → LeadsUpTo p (min i 65535) kind (core_with m took gave) moments → LeadsUpTo p i kind (core_with m took gave) moments
leads_of p m took gave i kind moments h leads = let c = core_with m took gave in elim (leb i 65535) as (λ b. (leb i 65535 ≡ b → LeadsUpTo p i kind c moments)) [
  | true ↦ λ is. let l = leb-true i 65535 is in let same : min i 65535 ≡ i = omega (arith, l) in subst (λ (j : ℕ). LeadsUpTo p j kind c moments) same leads
  | false ↦ λ is. let l = leb-false i 65535 is in let same : min i 65535 ≡ 65535 = omega (arith, l) in
      let none = nowhere p 65535 kind c moments (h.far 65535 (omega arith) took gave) (subst (λ (j : ℕ). LeadsUpTo p j kind c moments) same leads) in
      subst (LeadsUpTo p i kind c) (sym none) (h.far i (omega (arith, l)) took gave)
] refl

pub to_mark : (old new : MachineState) (seat : Seat) (kind : Kind) (number : ℕ) (mark : Mark) → mark ≡ marks.To seat kind → number ≡ min (seat_number (meaning.seat_of seat)) 65535 → IsPlayable old →
    HasPlayed (LeadsUpTo old.plan number (kind_text kind)) old new → HasPlayed (HasTurns old.plan (turn_of (meant mark))) old new
to_mark old new seat kind number mark is at h played =
    let i = seat_number (meaning.seat_of seat) in
    subst (λ l. HasPlayed (HasTurns old.plan (turn_of (meant l))) old new) (sym is)
    (as_played (LeadsUpTo old.plan number (kind_text kind)) (LeadsUpTo old.plan i (kind_text kind)) old new
    (λ took gave moments leads. leads_of old.plan old took gave i (kind_text kind) moments h (subst (λ (n : ℕ). LeadsUpTo old.plan n (kind_text kind) (core_with old took gave) moments) at leads)) played)

module _ (old new : MachineState) (i n : ℕ) (playable : IsPlayable old) (h : HasPlayed (λ d moments. seats_of moments ≡ replicate n (min i 65535)) old new) where
  -- the highest number's ticks did nothing, and neither would those of a seat above it
  ticks_above : 65535 < i → HasPlayed (λ d moments. seats_of moments ≡ replicate n i) old new
  ticks_above high =
      let same : min i 65535 ≡ 65535 = omega (arith, high) in
      let none_ : Ran old new [] = (
        h.0,
        h.1,
        λ took gave agrees agrees_gave. let t = h.2 took gave agrees agrees_gave in record {
          moments = [];
          is = refl;
          follows = none_follows old new took gave 65535 n t.moments (playable.far 65535 (omega arith) took gave) (t.is ∙ ap (λ j. replicate n j) same) t.follows;
        },
      ) in
      let r = ran_join old old new (replicate n i) [] (ran_rest old i (playable.far i (omega (arith, high))) n) none_ in
      (r.0, r.1, λ took gave agrees agrees_gave. let t = r.2 took gave agrees agrees_gave in record { moments = t.moments; is = t.is ∙ append-nil (replicate n i); follows = t.follows })

  ticks_of : HasPlayed (λ d moments. seats_of moments ≡ replicate n i) old new
  ticks_of = elim (leb i 65535) as (λ b. (leb i 65535 ≡ b → HasPlayed (λ d moments. seats_of moments ≡ replicate n i) old new)) [
    | true ↦ λ is. let l = leb-true i 65535 is in let same : min i 65535 ≡ i = omega (arith, l) in
        as_played (λ d moments. seats_of moments ≡ replicate n (min i 65535)) (λ d moments. seats_of moments ≡ replicate n i) old new (λ took gave moments e. e ∙ ap (λ j. replicate n j) same) h
    | false ↦ λ is. let l = leb-false i 65535 is in ticks_above (omega (arith, l))
  ] refl

pub tick_mark : (old new : MachineState) (seat : Seat) (ticks number : ℕ) (mark : Mark) → mark ≡ marks.Tick seat ticks → number ≡ min (seat_number (meaning.seat_of seat)) 65535 → IsPlayable old →
    HasPlayed (λ d moments. seats_of moments ≡ replicate ticks number) old new → HasPlayed (HasTurns old.plan (turn_of (meant mark))) old new
tick_mark old new seat ticks number mark is at h played =
    let i = seat_number (meaning.seat_of seat) in
    subst (λ l. HasPlayed (HasTurns old.plan (turn_of (meant l))) old new) (sym is)
    (ticks_of old new i ticks h (subst (λ (j : ℕ). HasPlayed (λ d moments. seats_of moments ≡ replicate ticks j) old new) at played))

other_line : (m : MachineState) (turn : Option Turn) → turn ≡ None → HasPlayed (HasTurns m.plan turn) m m
other_line m None e = none_played (HasTurns m.plan None) m (λ c. refl)
other_line m (Some turn) e = absurd (cc)

-- ## Lines

module _ (p : Plan) where
  scheduled_one : (c : Core) (turn : Turn) (moments : List Moment) → Turns p c turn moments → Scheduled p c (turn ∷ []) moments
  scheduled_one c turn moments h = (moments, [], sym (append-nil moments), h, refl)

  scheduled_more : (turns : List Turn) (c : Core) (turn : Turn) (moments more : List Moment) → Scheduled p c turns moments → Turns p (run p c moments) turn more → Scheduled p c (turns ++ turn ∷ []) (moments ++ more)
  scheduled_more [] c turn moments more h t =
      subst (Scheduled p c (turn ∷ [])) (sym (ap (λ s. s ++ more) h)) (scheduled_one c turn more (subst (λ s. Turns p (run p c s) turn more) h t))
  scheduled_more (u ∷ us) c turn moments more h t = (
    h.0,
    h.1 ++ more,
    ap (λ s. s ++ more) h.2 ∙ append_assoc h.0 h.1 more,
    h.3,
    scheduled_more us (run p c h.0) turn h.1 more h.4 (subst (λ d. Turns p d turn more) (ap (run p c) h.2 ∙ run_append p c h.0 h.1) t),
  )

  scheduled_line : (turns : List Turn) (turn : Option Turn) (c : Core) (moments more : List Moment) → Scheduled p c turns moments → HasTurns p turn (run p c moments) more → Scheduled p c (turns ++ cons_option turn []) (moments ++ more)
  scheduled_line turns None c moments more h t =
      subst (λ ms. Scheduled p c (turns ++ []) ms) (sym (ap (λ ms. moments ++ ms) t ∙ append-nil moments)) (subst (λ ts. Scheduled p c ts moments) (sym (append-nil turns)) h)
  scheduled_line turns (Some turn) c moments more h t = scheduled_more turns c turn moments more h t

-- one line more
played_more : (turns : List Turn) (turn : Option Turn) (a b c : MachineState) → HasPlayed (λ d. Scheduled a.plan d turns) a b → HasPlayed (HasTurns b.plan turn) b c → HasPlayed (λ d. Scheduled a.plan d (turns ++ cons_option turn [])) a c
played_more turns turn a b c h k =
    then_played (λ d. Scheduled a.plan d turns) (HasTurns a.plan turn) (λ d. Scheduled a.plan d (turns ++ cons_option turn [])) a b c h (subst (λ q. HasPlayed (HasTurns q turn) b c) h.0.plan k)
    (λ d xs ys hx hy. scheduled_line a.plan turns turn d xs ys hx hy)

schedule_more : (ms : List Mark) (i : ℕ) (mark : Mark) → i < length ms → mark ≡ get_or ms i mark → schedule (map meant (take (i + 1) ms)) ≡ schedule (map meant (take i ms)) ++ cons_option (turn_of (meant mark)) []
schedule_more ms i mark within at =
    ap (λ ls. schedule (map meant ls)) (take_more ms i mark within ∙ ap (λ l. take i ms ++ l ∷ []) (sym at))
    ∙ ap schedule (map_more meant (take i ms) mark) ∙ filter_map-append turn_of (map meant (take i ms)) (meant mark ∷ [])

pub mark_played : (ms : List Mark) (i : ℕ) (mark : Mark) (a b c : MachineState) → i < length ms → mark ≡ get_or ms i mark →
    HasPlayed (λ d. Scheduled a.plan d (schedule (map meant (take i ms)))) a b → HasPlayed (HasTurns b.plan (turn_of (meant mark))) b c → HasPlayed (λ d. Scheduled a.plan d (schedule (map meant (take (i + 1) ms)))) a c
mark_played ms i mark a b c within at h k =
    subst (λ ts. HasPlayed (λ d. Scheduled a.plan d ts) a c) (sym (schedule_more ms i mark within at)) (played_more (schedule (map meant (take i ms))) (turn_of (meant mark)) a b c h k)

-- ## Seats that are drawn

-- one tick each of so many seats that were drawn
abbrev pub drawn_so_far : ℕ → ℕ → ℕ → ℕ → List Turn
drawn_so_far total clients n seed = map (λ i. Ticks i 1) (sim_seats_of total clients n seed)

none_so_far : (total clients seed : ℕ) → drawn_so_far total clients 0 seed ≡ []
none_so_far zero clients seed = refl
none_so_far (suc others) clients seed = refl

pub none_drawn : (total clients seed : ℕ) (m : MachineState) → HasPlayed (λ d. Scheduled m.plan d (drawn_so_far total clients 0 seed)) m m
none_drawn total clients seed m = subst (λ ts. HasPlayed (λ d. Scheduled m.plan d ts) m m) (sym (none_so_far total clients seed)) (none_played (λ d. Scheduled m.plan d []) m (λ d. refl))

-- one more
pub drawn_more : (total clients n seed seat : ℕ) (a b c : MachineState) → 0 < total → seat ≡ seat_of clients (drawn (state_behind n seed) % total) →
    HasPlayed (λ d. Scheduled a.plan d (drawn_so_far total clients n seed)) a b → HasPlayed (λ d moments. seats_of moments ≡ seat ∷ []) b c → HasPlayed (λ d. Scheduled a.plan d (drawn_so_far total clients (n + 1) seed)) a c
drawn_more total clients n seed seat a b c some_ at h k =
    let tick : HasPlayed (HasTurns b.plan (Some (Ticks seat 1))) b c = as_played (λ d moments. seats_of moments ≡ seat ∷ []) (HasTurns b.plan (Some (Ticks seat 1))) b c (λ took gave moments e. e) k in
    subst (λ ts. HasPlayed (λ d. Scheduled a.plan d ts) a c)
    (sym (ap (map (λ i. Ticks i 1)) (seats_more total clients n seed some_) ∙ map_more (λ i. Ticks i 1) (sim_seats_of total clients n seed) _ ∙ ap (λ i. drawn_so_far total clients n seed ++ Ticks i 1 ∷ []) (sym at)))
    (played_more (drawn_so_far total clients n seed) (Some (Ticks seat 1)) a b c h tick)

-- ## A whole drawn schedule

-- the draws of a script behind so many
abbrev pub draws_of : List Item → ℕ → ℕ → SeatDraws
draws_of script n seed = record { clients = clients script; links = length (link_names script); state = state_behind n seed }

abbrev pub seats_in : List Item → ℕ
seats_in script = clients script + length (link_names script)

pub begins_drawing : (script : List Item) (p : Plan) (s : SeatDraws) (seed : ℕ) → p ≡ plan_of script → s ≡ record { clients = p.seats - 1; links = p.links; state = seed } → s ≡ draws_of script 0 seed
begins_drawing script p s seed plan e =
    e ∙ ap (λ (q : Plan). record { clients = q.seats - 1; links = q.links; state = seed }) plan
    ∙ ap (λ n. record { clients = n; links = length (link_names script); state = seed }) (let same : (clients script + 1) - 1 ≡ clients script = omega arith in same)

pub count_is : (script : List Item) (p : Plan) (s : SeatDraws) (n seed count : ℕ) → p ≡ plan_of script → s ≡ draws_of script n seed → count ≡ seat_count (s.clients + s.links) p.operations → count ≡ seat_count (seats_in script) (length (operations script))
count_is script p s n seed count plan are e =
    e ∙ ap (λ (t : SeatDraws). seat_count (t.clients + t.links) p.operations) are ∙ ap (λ (q : Plan). seat_count (seats_in script) q.operations) plan

some_seats : (total operations n : ℕ) → n < seat_count total operations → 0 < total
some_seats zero operations n h = absurd (omega (arith, h))
some_seats (suc total) operations n h = omega arith

pub seats_there : (script : List Item) (n count : ℕ) → n < count → count ≡ seat_count (seats_in script) (length (operations script)) → 0 < seats_in script
seats_there script n count h e = some_seats (seats_in script) (length (operations script)) n (subst (λ m. n < m) e h)

state_after : (n x : ℕ) → state_behind (suc n) x ≡ drawn_state (state_behind n x)
state_after zero x = refl
state_after (suc n) x = state_after n (drawn_state x)

pub draws_on : (script : List Item) (n seed : ℕ) (old new : SeatDraws) → old ≡ draws_of script n seed → new ≡ record { clients = old.clients; links = old.links; state = drawn_state old.state } → new ≡ draws_of script (n + 1) seed
draws_on script n seed old new e f =
    f ∙ ap (λ (s : SeatDraws). record { clients = s.clients; links = s.links; state = drawn_state s.state }) e
    ∙ ap (λ x. record { clients = clients script; links = length (link_names script); state = x }) (sym (behind_more n seed))

pub seat_drawn : (script : List Item) (n seed seat : ℕ) (old : SeatDraws) → old ≡ draws_of script n seed → seat ≡ seat_of old.clients (drawn old.state % (old.clients + old.links)) → seat ≡ seat_of (clients script) (drawn (state_behind n seed) % seats_in script)
seat_drawn script n seed seat old e f = f ∙ ap (λ (s : SeatDraws). seat_of s.clients (drawn s.state % (s.clients + s.links))) e

all_drawn : (total clients operations seed : ℕ) → sim_seats_of total clients (seat_count total operations) seed ≡ sim_seats_of total clients (64 * operations + 256) seed
all_drawn zero clients operations seed = refl
all_drawn (suc others) clients operations seed = ap (λ n. sim_seats_of (suc others) clients n seed) (count_some (suc others) operations (omega arith))

pub drawn_played : (script : List Item) (n count seed : ℕ) (a b : MachineState) → count ≡ seat_count (seats_in script) (length (operations script)) → n ≡ count →
    HasPlayed (λ d. Scheduled a.plan d (drawn_so_far (seats_in script) (clients script) n seed)) a b → HasPlayed (λ d. Scheduled a.plan d (drawn_turns script seed)) a b
drawn_played script n count seed a b e f h =
    subst (λ ts. HasPlayed (λ d. Scheduled a.plan d ts) a b)
    (ap (λ m. drawn_so_far (seats_in script) (clients script) m seed) (f ∙ e) ∙ ap (map (λ i. Ticks i 1)) (all_drawn (seats_in script) (clients script) (length (operations script)) seed)) h

-- ## A whole schedule

pub whole_played : (ms : List Mark) (i : ℕ) (a b : MachineState) → length ms ≤ i → HasPlayed (λ d. Scheduled a.plan d (schedule (map meant (take i ms)))) a b → HasPlayed (λ d. Scheduled a.plan d (schedule (map meant ms))) a b
whole_played ms i a b h played = subst (λ ls. HasPlayed (λ d. Scheduled a.plan d (schedule (map meant ls))) a b) (take_all i ms h) played

pub by_marks : (script : List Item) (ms : List Mark) (turns : List Turn) (a b : MachineState) → map meant ms ≡ map outlined script → turns ≡ schedule script → HasPlayed (λ d. Scheduled a.plan d (schedule (map meant ms))) a b → HasPlayed (λ d. Scheduled a.plan d turns) a b
by_marks script ms turns a b e f played = subst (λ ts. HasPlayed (λ d. Scheduled a.plan d ts) a b) (ap schedule e ∙ schedule_same script ∙ sym f) played

-- a line that isn't one of the schedule
no_turn : (mark : Mark) → ((seat : Seat) (ticks : ℕ) → mark ≡ marks.Tick seat ticks → ⊥) → ((seat : Seat) (kind : Kind) → mark ≡ marks.To seat kind → ⊥) → turn_of (meant mark) ≡ None
no_turn (marks.Tick seat ticks) h k = absurd (h seat ticks refl)
no_turn (marks.To seat kind) h k = absurd (k seat kind refl)
no_turn _ h k = refl

pub unscheduled_mark : (m : MachineState) (mark : Mark) → ((seat : Seat) (ticks : ℕ) → mark ≡ marks.Tick seat ticks → ⊥) → ((seat : Seat) (kind : Kind) → mark ≡ marks.To seat kind → ⊥) → HasPlayed (HasTurns m.plan (turn_of (meant mark))) m m
unscheduled_mark m mark h k = other_line m (turn_of (meant mark)) (no_turn mark h k)

pub by_draws : (turns drawn : List Turn) (a b : MachineState) → turns ≡ drawn → HasPlayed (λ d. Scheduled a.plan d drawn) a b → HasPlayed (λ d. Scheduled a.plan d turns) a b
by_draws turns drawn a b e played = subst (λ ts. HasPlayed (λ d. Scheduled a.plan d ts) a b) (sym e) played
