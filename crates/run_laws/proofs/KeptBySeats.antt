-- What each seat keeps to in a run, beside the rule: its program goes on as its mode says, no link that is stopped takes anything, and a link is stopped only
-- where its life was failed, or is failed next by the seat that writes it.
use Rattle.std.proofs.Common.{◌≡◌, ◌≢◌, ℕ, ◌⊎◌, ⊎_elim, Bool, true, false, eqb, cond, eq-eqb, ne_eqb, List, [], ◌∷◌, set, refl, sym, ap, ◌∙◌, subst}
use mathlib.Core.Option.{Option, some}
use lib.ListN.{get_elem?}
use Rattle.atomic_table.proofs.Lists.{at_set, set_else}
use Rattle.sock_words.specs.declared.plain.Plan.{Plan}
use Rattle.sock_words.specs.PackedWords.{socket_id_version, socket_id_slot}
use Rattle.sock_model.specs.declared.chain.Right.{Right}
use Rattle.sock_model.specs.declared.home.Home.{Home}
use Rattle.sock_model.specs.declared.view.View.{View}
use Rattle.sock_model.specs.LinksInSlots.{HoldsLink, Failed}
use Rattle.seat_programs.specs.Writings.{Writing, Waits}
use Rattle.seat_programs.specs.Programs.{Program, Write, Round}
use Rattle.seat_programs.specs.Cores.{Calls, Core, SeatState, resolved, waiting_at, next_step, with_seat}
use Rattle.programs_allowed.specs.program_steps.specs.ProgramGoesOn.{GoesOn}
use Rattle.seat_programs.specs.Ticks.{Moment, IsAnswered, ticked}
use Rattle.programs_allowed.specs.program_steps.specs.SoundSeats.{Sound, state, IsFitting}
use Rattle.programs_allowed.specs.sock_runs.proofs.LinkTicks.{RetriesGo}
use Rattle.run_laws.proofs.Modes.{Mode, Unknown, Live, Fed, Dead, Asks, Broken, IsWhole, Guarded, first_mode, first_guarded, come_guarded, round_mode}
use Rattle.seat_programs.specs.LoopRounds.{first_step}

-- the seat holds a life in slot i whose link is k
abbrev pub HoldsAt : Plan → View → ℕ → ℕ → Type 0
HoldsAt p v i k = (h : ℕ) × HoldsLink p v i h k

-- what the mode of the seat that has this right says
abbrev pub FitsRight : Plan → View → (ℕ → Bool) → Mode → Right → Type 0
FitsRight p v stopped (Live i) r = (stopped r.link ≡ false) × HoldsAt p v i r.link
FitsRight p v stopped Fed r = stopped r.link ≡ false
FitsRight p v stopped Dead r = stopped r.link ≡ true
FitsRight p v stopped (Asks i) r = HoldsAt p v i r.link
FitsRight p v stopped (Broken i) r = HoldsAt p v i r.link
FitsRight p v stopped Unknown r = Unit {0}

abbrev pub Fits : Plan → View → (ℕ → Bool) → Mode → Type 0
Fits p v stopped mode = (r : Right) → v.rights ≡ r ∷ [] → FitsRight p v stopped mode r

-- whoever writes link k was answered that it failed, and sets its life failed next
pub record IsBroken (views : List View) (modes : ℕ → Mode) (k : ℕ) : Type 0 where
  pub seat : ℕ
  pub view : View
  pub right : Right
  pub slot : ℕ
  pub there : get_elem? views seat ≡ some view
  pub mode : modes seat ≡ Broken slot
  pub one : view.rights ≡ right ∷ []
  pub link : right.link ≡ k

-- a tick that is answered, and in which what steps aside of the sockets find is as it should be
abbrev pub IsGiven : Plan → Core → Moment → Type 0
IsGiven p c m = IsAnswered c m × IsFitting p c m

abbrev pub AreGiven : Plan → Core → List Moment → Type 0
AreGiven p c [] = Unit {0}
AreGiven p c (m ∷ ms) = IsGiven p c m × AreGiven p (ticked p c m) ms

pub record Kept (p : Plan) (c : Core) (views : List View) (stopped : ℕ → Bool) : Type 0 where
  pub sound : Sound p c views
  -- each retry may be tried
  pub retries_go : RetriesGo p
  pub modes : ℕ → Mode
  pub guarded : (i : ℕ) (seat : SeatState) → get_elem? c.seats i ≡ some seat → Guarded (modes i) seat.program
  pub fits : (i : ℕ) (v : View) → get_elem? views i ≡ some v → Fits p v stopped (modes i)
  pub stops : (k : ℕ) → stopped k ≡ true → Failed p (state c views) k ⊎ IsBroken views modes k

-- ## The first step of a seat

-- a seat that sets its life failed next isn't at the head of a loop
pub first_broken : (m : Mode) (i : ℕ) (program : Program) → Guarded m program → m ≡ Broken i → first_mode m program ≡ Broken i
first_broken m i (Write w after) g e = absurd (subst IsWhole e g.0)
first_broken m i (Round head next) g e = absurd (subst IsWhole e g.0)
first_broken m i _ g e = e

round_fits : (p : Plan) (v : View) (stopped : ℕ → Bool) (w : Writing) (after : Program) → GoesOn p v (Write w after) → Fits p v stopped (round_mode w)
round_fits p v stopped (Waits h now heading left taken) after goes r one = let at = goes.0 in let mine = at.1 in
    let same : at.0 ≡ r = heads_same at.0 r (sym mine.one ∙ one) in
    (socket_id_version h.id, subst (HoldsLink p v (socket_id_slot h.id) (socket_id_version h.id)) (sym mine.link ∙ ap (λ (x : Right). x.link) same) mine.holds)
  where
    heads_same : (x y : Right) → x ∷ [] ≡ y ∷ [] → x ≡ y
    heads_same x y e = cc
round_fits p v stopped _ after goes r one = tt

pub first_fits : (p : Plan) (v : View) (stopped : ℕ → Bool) (m : Mode) (program : Program) → GoesOn p v program → Fits p v stopped m → Fits p v stopped (first_mode m program)
first_fits p v stopped m (Write w after) goes fits = round_fits p v stopped w after goes
first_fits p v stopped m (Round head next) goes fits = λ r one. tt
first_fits p v stopped m _ goes fits = fits

-- ## A step of seat i

abbrev pub mode_at : ℕ → Mode → (ℕ → Mode) → ℕ → Mode
mode_at i m modes x = cond (eqb x i) m (modes x)

pub mode_here : (i : ℕ) (m : Mode) (modes : ℕ → Mode) → mode_at i m modes i ≡ m
mode_here i m modes = ap (λ b. cond b m (modes i)) (eq-eqb i i refl)

pub mode_else : (i x : ℕ) (m : Mode) (modes : ℕ → Mode) → x ≢ i → mode_at i m modes x ≡ modes x
mode_else i x m modes ne = ap (λ b. cond b m (modes x)) (ne_eqb x i ne)

module _ (p : Plan) (c : Core) (views : List View) (stopped : ℕ → Bool) (kept : Kept p c views stopped) (i : ℕ) (seat : SeatState) (v : View) (at_seat : get_elem? c.seats i ≡ some seat) (at : get_elem? views i ≡ some v) where
  abbrev pub mode : Mode
  mode = first_mode (kept.modes i) seat.program

  pub mode_guarded : (program : Program) → first_step seat.program ≡ program → Guarded mode program
  mode_guarded program is = subst (Guarded mode) is (first_guarded (kept.modes i) seat.program (kept.guarded i seat at_seat))

  pub mode_fits : Fits p v stopped mode
  mode_fits = first_fits p v stopped (kept.modes i) seat.program (kept.sound.seats i seat v at_seat at).goes_on (kept.fits i v at)

  -- only whoever is to set its life failed is broken
  pub not_broken : IsWhole mode → (s : ℕ) → kept.modes i ≡ Broken s → ⊥
  not_broken whole s e = subst IsWhole (first_broken (kept.modes i) s seat.program (kept.guarded i seat at_seat) e) whole

  module _ (a : Calls) (w : View) (m' : Mode) (program : Program) (hand : List Home) (ws : List ℕ) (hs : List (Option Home)) (stopped' : ℕ → Bool) where
    abbrev after : Core
    after = with_seat i program hand ws hs (record c { calls = a })

    abbrev views' : List View
    views' = set views i w

    abbrev modes' : ℕ → Mode
    modes' = mode_at i m' kept.modes

    -- the seat that was broken still is, where it is another one
    pub broken_else : (k : ℕ) (b : IsBroken views kept.modes k) → b.seat ≢ i → IsBroken views' modes' k
    broken_else k b ne = record {
      seat = b.seat;
      view = b.view;
      right = b.right;
      slot = b.slot;
      there = set_else views i b.seat w ne ∙ b.there;
      mode = mode_else i b.seat m' kept.modes ne ∙ b.mode;
      one = b.one;
      link = b.link;
    }

    -- what has to be shown of a step
    pub steps : Sound p after views' → Guarded m' program → Fits p w stopped' m' → ((x : ℕ) (u : View) → x ≢ i → get_elem? views x ≡ some u → Fits p u stopped (kept.modes x) → Fits p u stopped' (kept.modes x))
        → ((k : ℕ) → stopped' k ≡ true → Failed p (state after views') k ⊎ IsBroken views' modes' k) → Kept p after views' stopped'
    steps sound guarded fits others stops = record {
      sound = sound;
      retries_go = kept.retries_go;
      modes = modes';
      guarded = λ x s e. ⊎_elim
          (λ r. subst (λ y. Guarded (modes' y) s.program) (sym r.0) (subst (λ (y : Mode). Guarded y s.program) (sym (mode_here i m' kept.modes)) (subst (λ (y : SeatState). Guarded m' y.program) r.1 (come_guarded m' (waiting_at a.waiting i) program guarded))))
          (λ r. subst (λ (y : Mode). Guarded y s.program) (sym (mode_else i x m' kept.modes r.0)) (kept.guarded x s r.1))
          (at_set c.seats i x (record { program = next_step (resolved (waiting_at a.waiting i) program); hand = hand }) s e);
      fits = λ x u e. ⊎_elim
          (λ r. subst (λ y. Fits p u stopped' (modes' y)) (sym r.0) (subst (Fits p u stopped') (sym (mode_here i m' kept.modes)) (subst (λ (y : View). Fits p y stopped' m') r.1 fits)))
          (λ r. subst (Fits p u stopped') (sym (mode_else i x m' kept.modes r.0)) (others x u r.0 r.1 (kept.fits x u r.1)))
          (at_set views i x w u e);
      stops = stops;
    }
