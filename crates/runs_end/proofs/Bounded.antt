-- Behind any tick no more is left than before, and each seat has few messages accepted.
use Rattle.std.proofs.Common.{◌≡◌, ℕ, ◌-◌, ◌<◌, ◌≤◌, Bool, true, false, not, ◌||◌, List, [], ◌∷◌, length, set, refl, sym, ap, ◌∙◌, subst, ⊎_elim, arith, cond, eqb}
use Rattle.std.proofs.lemmas.Bool.{true≢false}
use Rattle.std.specs.Prelude.{slice_index}
use Rattle.std.specs.Prelude as std
use mathlib.Core.Option.{Option, some, none}
use lib.ListN.{get_elem?}
use Rattle.atomic_table.proofs.Lists.{set_again}
use Rattle.sock_words.specs.PackedWords.{socket_id_version, socket_id_slot, ticket_request, UNCONNECTED, NO_SOCKET}
use Rattle.sock_words.specs.declared.plain.Plan.{Plan}
use Rattle.seat_programs.specs.sock_io.specs.declared.link.Ready.TheVariants.{NotYet}
use Rattle.sock_model.specs.declared.chain.Right.{Right}
use Rattle.sock_model.specs.declared.chain.Stage.{Stage}
use Rattle.sock_model.specs.declared.chain.Stage.TheVariants as stages
use Rattle.sock_model.specs.declared.view.View.{View}
use Rattle.sock_model.specs.SocketTableLayout.{next_index, open_index}
use Rattle.sock_model.specs.ChainRows.{with_right}
use Rattle.sock_model.specs.SlotRows.{met}
use Rattle.seat_programs.specs.TableSteps.{OnChain, ReadNext}
use Rattle.seat_programs.specs.Writings as heads
use Rattle.seat_programs.specs.LoopHeads.{Head, Exit, Locks, Joins, Opens, Reads, Discards}
use Rattle.seat_programs.specs.Programs.{Program, Rest, Write, Round}
use Rattle.seat_programs.specs.Cores.{Core, SeatState}
use Rattle.seat_programs.specs.Ticks.{Answer, OfReady, Moment, IsAnswered, IsAlwaysReady, ticked, tick_with, waits_at, waits_in, waits}
use Rattle.seat_programs.specs.ScheduledRuns.{IsAtRest}
use Rattle.seat_programs.specs.StepTables.{row, hand_at}
use Rattle.seat_programs.specs.StepViews.{by_right}
use Rattle.seat_programs.specs.StepsOfChain.{read_next}
use Rattle.seat_programs.specs.StepsOfNames.{found_id}
use Rattle.sock_runs.specs.program_steps.specs.ProgramGoesOn.{GoesOn}
use Rattle.sock_runs.specs.program_steps.specs.SoundSeats.{Sound, IsAhead, AreFew, IsFitting, views_of, views_after}
use Rattle.sock_runs.specs.program_steps.specs.TicksLeftAtMost.{Lasts, IsCounted, MOST_PAID}
use Rattle.sock_runs.proofs.LinkTicks.{RetriesGo}
use Rattle.sock_runs.proofs.SoundAlongRuns.{seat_rests, ticked_ahead}
use Rattle.sock_runs.proofs.TicksOfWaitingSeats.{waits_still}
use Rattle.sock_runs.proofs.FewAcceptedMessages.{few_lasts}
use Rattle.runs_end.proofs.HeadMoves.{calls_last}
use Rattle.sock_runs.proofs.Quiets.{ticked_seats}

-- ## Where nothing moves

module _ (p : Plan) (i : ℕ) (c : Core) (vs : List View) (v : View) (at_view : get_elem? vs i ≡ some v) where
  -- the walk has come to an entry that isn't connected
  walk_same : (top place after : ℕ) (r : Right) → v.rights ≡ r ∷ [] → r.stage ≡ stages.Reversing top place after → (found : ℕ) → eqb found UNCONNECTED ≡ true → by_right v.rights (λ (x : Right). read_next found v x x.stage) v ≡ v
  walk_same top place after r one stage found is = ap (λ (rs : List Right). by_right rs (λ (x : Right). read_next found v x x.stage) v) one
      ∙ (ap (λ (s : Stage). read_next found v r s) stage ∙ ap (λ b. cond b v (with_right v (record r { stage = stages.ReversesNext top place after found }))) is)

  -- the word of the `open` isn't stored
  open_same : (found : ℕ) → eqb found 0 ≡ true → found_id found v ≡ v
  open_same found is = ap (λ b. cond (not (b || eqb found NO_SOCKET)) (met (socket_id_slot (found - 1)) (socket_id_version (found - 1)) v) v) is

  set_same : (w : View) → w ≡ v → set vs i w ≡ vs
  set_same w same = ap (λ x. set vs i x) same ∙ set_again vs i v at_view

  round_stays : (head : Head) (next : Exit head → Program) (answer : Answer) → waits_in p c.words c.calls answer head ≡ true → views_of p i c vs v answer (Round head next) ≡ vs
  round_stays (Locks j sought std.None) next answer is = refl
  round_stays (Joins id) next answer is = refl
  round_stays (Opens o) next answer is = set_same (found_id (slice_index c.words (open_index p o)) v) (open_same (slice_index c.words (open_index p o)) is)
  round_stays (Reads r) next answer is = refl
  round_stays (Discards k total) next answer is = refl
  round_stays _ next answer is = absurd (true≢false (sym is))

  -- a seat that waits keeps its view
  views_stay : (program : Program) (answer : Answer) → GoesOn p v program → waits_at p c answer program ≡ true → views_of p i c vs v answer program ≡ vs
  views_stay (Write (heads.Reversing h top place after) then_) answer g is = let found : ℕ = slice_index c.words (next_index p (ticket_request place)) in
      set_same (row p (OnChain (ReadNext (ticket_request place))) found (hand_at p c.words c.homes (OnChain (ReadNext (ticket_request place)))) v) (walk_same top place after g.0.0 g.0.1.one g.0.2.stage_is found is)
  views_stay (Write (heads.Waits h now heading left taken) after) (OfReady NotYet) g is = refl
  views_stay (Write (heads.Waits h now heading left taken) after) _ g is = absurd (true≢false (sym is))
  views_stay (Round head next) answer g is = round_stays head next answer is
  views_stay _ answer g is = absurd (true≢false (sym is))

module _ (p : Plan) (c : Core) (vs : List View) (m : Moment) where
  abbrev Views : Option SeatState → Option View → List View
  Views q o = elim q as (λ o. List View) [ none ↦ vs | some seat ↦ elim o as (λ o. List View) [ none ↦ vs | some v ↦ views_of p m.seat c vs v m.answer seat.program ] ]

  waits_same : Sound p c vs → (q : Option SeatState) → get_elem? c.seats m.seat ≡ q → (elim q as (λ o. Bool) [ none ↦ false | some seat ↦ waits_at p c m.answer seat.program ]) ≡ true → (o : Option View) → get_elem? vs m.seat ≡ o → Views q o ≡ vs
  waits_same sound none at is o e = refl
  waits_same sound (some seat) at is none e = refl
  waits_same sound (some seat) at is (some v) e = views_stay p m.seat c vs v e seat.program m.answer (sound.seats m.seat seat v at e).goes_on is

  pub views_still : Sound p c vs → waits p c m ≡ true → views_after p c vs m ≡ vs
  views_still sound is = waits_same sound (get_elem? c.seats m.seat) refl is (get_elem? vs m.seat) refl

  -- a seat at rest changes nothing
  rest_core : (q : Option SeatState) → ((seat : SeatState) → q ≡ some seat → seat.program ≡ Rest) → (elim q as (λ o. Core) [ none ↦ c | some seat ↦ tick_with p m.seat seat c m.answer seat.program ]) ≡ c
  rest_core none rests = refl
  rest_core (some seat) rests = ap (tick_with p m.seat seat c m.answer) (rests seat refl)

  rest_views : (q : Option SeatState) → ((seat : SeatState) → q ≡ some seat → seat.program ≡ Rest) → (o : Option View) → Views q o ≡ vs
  rest_views none rests o = refl
  rest_views (some seat) rests none = refl
  rest_views (some seat) rests (some v) = ap (views_of p m.seat c vs v m.answer) (rests seat refl)

  pub rests_still : IsAhead c → IsAtRest c m.seat → (ticked p c m ≡ c) × (views_after p c vs m ≡ vs)
  rests_still ahead idle = let rests : (seat : SeatState) → get_elem? c.seats m.seat ≡ some seat → seat.program ≡ Rest = λ seat at. seat_rests c ahead m.seat idle seat at in
      (rest_core (get_elem? c.seats m.seat) rests, rest_views (get_elem? c.seats m.seat) rests (get_elem? vs m.seat))

-- ## A run over prompt links

-- no seat has an outcome to say before its next step, there are few seats, at most so many ticks are left, and each seat had few messages accepted
pub record IsBounded (p : Plan) (most : ℕ) (c : Core) (vs : List View) : Type 0 where
  pub ahead : IsAhead c
  pub few_seats : length c.seats ≤ 64
  pub left : ℕ
  pub lasts : Lasts p c vs left
  pub within : left ≤ most
  pub few : AreFew vs

module _ (p : Plan) (go : RetriesGo p) (c : Core) (vs : List View) (m : Moment) (sound : Sound p c vs) (answered : IsAnswered c m) (always_ready : IsAlwaysReady m) (fitting : IsFitting p c m) (counted : IsCounted c m) where
  -- no more is left behind a tick than before
  pub tick_lasts : (n : ℕ) → IsAhead c → length c.seats ≤ 64 → Lasts p c vs n → (l : ℕ) × (l ≤ n) × Lasts p (ticked p c m) (views_after p c vs m) l
  tick_lasts n ahead few lasts = ⊎_elim
      (λ still. (n, omega arith, ⊎_elim (λ idle. let r = rests_still p c vs m ahead idle in same r.0 r.1) (λ is. same (waits_still p c vs m sound ahead answered is) (views_still p c vs m sound is)) still))
      (λ moves. let less = moves.1 in (moves.0, omega (arith, less), moves.2)) (calls_last p go c vs m n sound answered always_ready fitting counted few lasts)
    where
      same : ticked p c m ≡ c → views_after p c vs m ≡ vs → Lasts p (ticked p c m) (views_after p c vs m) n
      same a b = subst (λ d. Lasts p d (views_after p c vs m) n) (sym a) (subst (λ us. Lasts p c us n) (sym b) lasts)

  pub bounded_ticks : (most : ℕ) → most < MOST_PAID → IsBounded p most c vs → IsBounded p most (ticked p c m) (views_after p c vs m)
  bounded_ticks most small b = let l = tick_lasts b.left b.ahead b.few_seats b.lasts in let le = l.1 in let within = b.within in let seats = b.few_seats in record {
    ahead = ticked_ahead p c m b.ahead;
    few_seats = omega (arith, seats, ticked_seats p c m);
    left = l.0;
    lasts = l.2;
    within = omega (arith, le, within);
    few = few_lasts p c vs m b.left sound answered fitting b.lasts (omega (arith, within, small)) b.few;
  }
