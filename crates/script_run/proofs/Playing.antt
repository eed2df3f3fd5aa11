-- Ticks of a machine, one after another.
use Rattle.std.proofs.Common.{◌≡◌, ℕ, suc, ◌+◌, ◌≤◌, List, [], ◌∷◌, ◌++◌, map, length, replicate, ap, sym, subst, refl, ◌∙◌, arith, slice_get, Some}
use Rattle.std.proofs.Props.{props}
use Rattle.std.proofs.Math.Logic.{∥∥₁_elim}
use Rattle.std.proofs.lemmas.List.{length-map}
use Rattle.sock_words.specs.declared.kind.Kind.{Kind}
use Rattle.sock_words.specs.KindText.{kind_text}
use Rattle.brpc_model.specs.ReturnedLink.{LinkEnd}
use Rattle.seat_programs.specs.Cores.{Core}
use Rattle.seat_programs.specs.Ticks.{Moment, seats_of, run}
use Rattle.seat_programs.specs.ScheduledRuns.{LeadsUpTo}
use Rattle.machine_model.specs.declared.tick.Tick.{Tick}
use Rattle.machine_model.specs.declared.tick.Tick.TheVariants.{Idle}
use Rattle.machine_model.specs.MachineLinks.{Taken, Given}
use Rattle.machine_model.specs.Machines.{MachineState, HasSizes, core_with}
use Rattle.machine_model.specs.MachineRuns.{SameLink, SameLinks, Ticked, Led}
use Rattle.sock_core.specs.machine_ticks.proofs.JoiningRuns.{follows_none, follows_join, made_join}
use Rattle.machine_model.proofs.Same.{same_table_none, same_links_none}
use Rattle.machine_model.specs.Driving.{FirstRests}
use Rattle.sock_core.specs.machine_ticks.proofs.RestingTicks.{Rests, idle_ran, beyond_rests}
use Rattle.script_links.specs.LinksGivenBack.{AreUntouched, AreNumbered}
use Rattle.script_run.specs.Played.{IsPlayable, PlayedWith, HasPlayed}
use Rattle.script_links.proofs.LinkNumbering.{numbered_of}

-- there are fewer seats than 65,535
far_seats : (m : MachineState) → ∥ HasSizes m ∥₁ → (i : ℕ) → 65535 ≤ i → Rests m i
far_seats m sizes i high took gave = ∥∥₁_elim sizes (hlevel props) (λ sizes. let few = sizes.few_readers in beyond_rests m i sizes.few_seats (omega (arith, few, high)) took gave)

pub playable_by : (m : MachineState) → FirstRests m → ∥ HasSizes m ∥₁ → IsPlayable m
playable_by m first sizes = record { first = first; far = far_seats m sizes }

-- none were made
pub none_played : (Ticks : Core → List Moment → Type 0) (m : MachineState) → ((c : Core) → Ticks c []) → HasPlayed Ticks m m
none_played Ticks m h = (same_table_none m, same_links_none m, λ took gave agrees agrees_gave. record { moments = []; is = h (core_with m took gave); follows = follows_none m took gave agrees agrees_gave })

pub tick_played : (old new : MachineState) (seat : ℕ) (tick : Tick) → Ticked old new seat tick → HasPlayed (λ c moments. seats_of moments ≡ seat ∷ []) old new
tick_played old new seat tick h = (h.0, h.1, λ took gave agrees agrees_gave. let t = h.2 took gave agrees agrees_gave in record { moments = t.moment ∷ []; is = ap (λ i. i ∷ []) t.is_of; follows = t.follows })

-- the seat had no step left: any number of its ticks would do the same
pub idle_ticks : (old new : MachineState) (seat n : ℕ) → Ticked old new seat Idle → HasPlayed (λ c moments. seats_of moments ≡ replicate n seat) old new
idle_ticks old new seat n h = idle_ran old new seat h n

pub led_played : (old new : MachineState) (seat : ℕ) (kind : Kind) → Led old new seat kind → HasPlayed (LeadsUpTo old.plan seat (kind_text kind)) old new
led_played old new seat kind h = (h.0, h.1, λ took gave agrees agrees_gave. let t = h.2 took gave agrees agrees_gave in record { moments = t.moments; is = t.is; follows = t.follows })

-- the same ticks, said otherwise
pub as_played : (S T : Core → List Moment → Type 0) (old new : MachineState) → ((took : Taken) (gave : Given) (moments : List Moment) → S (core_with old took gave) moments → T (core_with old took gave) moments) → HasPlayed S old new → HasPlayed T old new
as_played S T old new change h = (h.0, h.1, λ took gave agrees agrees_gave. let t = h.2 took gave agrees agrees_gave in record { moments = t.moments; is = change took gave t.moments t.is; follows = t.follows })

-- ticks, and then others
pub then_played : (S T U : Core → List Moment → Type 0) (a b c : MachineState) → HasPlayed S a b → HasPlayed T b c → ((d : Core) (xs ys : List Moment) → S d xs → T (run a.plan d xs) ys → U d (xs ++ ys)) → HasPlayed U a c
then_played S T U a b c h k join = made_join a b c (PlayedWith S a b) (PlayedWith T b c) (PlayedWith U a c) h k (λ took gave agrees agrees_gave table links after x later. let f = x.follows in
    let y = later f.later f.later_gave f.agrees f.agrees_gave in record {
      moments = x.moments ++ y.moments;
      is = join (core_with a took gave) x.moments y.moments x.is (subst (λ d. T d y.moments) f.core y.is);
      follows = follows_join a b c took gave x.moments y.moments table links after f y.follows;
    })

-- ## Numbers

-- links that were opened in order stay in order
numbered_at : (number : ℕ) (old new : List LinkEnd) → AreNumbered number old → length new ≡ length old → ((k : ℕ) (a b : LinkEnd) → slice_get old k ≡ Some a → slice_get new k ≡ Some b → SameLink a b) → AreNumbered number new
numbered_at number old [] h many each = tt
numbered_at number [] (y ∷ ys) h many each = absurd (omega (arith, many))
numbered_at number (x ∷ xs) (y ∷ ys) h many each = ((each 0 x y refl refl).link ∙ h.0, numbered_at (number + 1) xs ys h.1 (omega (arith, many)) (λ k a b ha hb. each (suc k) a b ha hb))

pub numbered_later : (old new : MachineState) (ends : List LinkEnd) → AreUntouched 0 old.ends → SameLinks old new → ends ≡ new.ends → AreNumbered 0 ends
numbered_later old new ends h same e = subst (AreNumbered 0) (sym e) (numbered_at 0 old.ends new.ends (numbered_of 0 old.ends h) same.as_many same.each)

pub count_later : {A : Type 0} (f : A → LinkEnd) (old new : MachineState) (ends : List A) → SameLinks old new → map f ends ≡ new.ends → length ends ≡ length old.ends
count_later f old new ends same e = sym (length-map ends f) ∙ ap length e ∙ same.as_many
