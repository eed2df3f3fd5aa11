-- How a run begins: nothing lives, nothing was accepted or taken, and each seat keeps to its program.
use Rattle.std.proofs.Common.{◌≡◌, ℕ, zero, suc, ◌<◌, List, [], ◌∷◌, ◌++◌, map, get_or, refl, sym, ap, ◌∙◌, subst, arith}
use Rattle.std.proofs.lemmas.Bool.{true≢false}
use Rattle.std.specs.List.{flat_map, AllByRecursion}
use Rattle.programs_allowed.specs.sock_runs.proofs.LinkTicks.{RetriesGo}
use Rattle.std.proofs.Common.{◌+◌, ◌-◌, length, replicate}
use mathlib.Core.Option.{some, some-injective, some-ne-none}
use lib.ListN.{get_elem?}
use Rattle.sock_words.specs.declared.plain.Plan.{Plan}
use Rattle.sock_model.specs.declared.chain.Entry.{Entry}
use Rattle.sock_model.specs.declared.home.Home.{Home}
use Rattle.sock_model.specs.declared.marks.Mark.{Mark}
use Rattle.sock_model.specs.declared.view.View.{View}
use Rattle.sock_model.specs.SocketTableLayout.{request_index}
use Rattle.sock_model.specs.Marks.{about}
use Rattle.sock_model.specs.ChainLawReads.{rights_on, link_home, took_of}
use Rattle.sock_model.specs.ViewsOfSplitSeats.{newcomer}
use Rattle.sock_model.specs.SlotRows.{marks_of}
use Rattle.sock_model.specs.MarkWeights.{is_born, is_failer, is_freer, is_hold, is_linked}
use Rattle.seat_programs.specs.declared.task.Task.{Task}
use Rattle.seat_programs.specs.declared.task.Sizes.{Sizes}
use Rattle.corr_core.specs.declared.marks.Plan.{Plan as IdPlan}
use Rattle.seat_programs.specs.Programs.{Program, Rest}
use Rattle.seat_programs.specs.Cores.{Core, SeatState, resolved, next_step}
use Rattle.seat_programs.specs.ScriptSetupToEnding.{beginning, programs, readers_from, all_programs, opening_homes}
use Rattle.programs_allowed.specs.program_steps.specs.SoundSeats.{Sound}
use Rattle.programs_allowed.specs.program_walks.proofs.OpenedLivesRecorded.{mapped, all_at}
use Rattle.programs_allowed.specs.SeatOpenings.{client_view, opening_views}
use Rattle.programs_allowed.proofs.WordsAtBeginning.{beyond, at_home}
use Rattle.message_events.specs.MessageStanding.{Stand, accepted_by, hands_on, by_rights, by_home, stand}
use Rattle.run_laws.specs.World.{IsNew}
use Rattle.run_laws.specs.Seen.{none_stopped, world_of}
use Rattle.run_laws.proofs.Modes.{Unknown, Guarded, client_guarded, reader_guarded, come_guarded}
use Rattle.run_laws.proofs.KeptBySeats.{Kept}
use Rattle.run_laws.proofs.Arrives.{AtPut, guarded_put, unknown_live}
use Rattle.run_laws.proofs.Full.{AreFull, none_full}
use Rattle.sock_words.specs.Totals.{total}

-- ## Views without anything

pub record IsBare (v : View) : Type 0 where
  pub marks : v.marks ≡ []
  pub rights : v.rights ≡ []
  pub hands : v.hands ≡ []
  pub claims : v.claims ≡ []
  pub lists : v.lists ≡ [] ∷ []

abbrev AreBare : List View → Type 0
AreBare views = (i : ℕ) (v : View) → get_elem? views i ≡ some v → IsBare v

new_bare : (p : Plan) (passes : List ℕ) (more : ℕ) → IsBare (newcomer p passes more)
new_bare p passes more = record { marks = refl; rights = refl; hands = refl; claims = refl; lists = refl }

pub opening_bare : (p : Plan) (clients : List (List Task)) (i : ℕ) (v : View) → get_elem? (opening_views p clients) i ≡ some v → IsBare v
opening_bare p [] i v at = absurd (some-ne-none v (sym at))
opening_bare p (ts ∷ clients) zero v at = subst IsBare (some-injective _ v at) (new_bare p _ _)
opening_bare p (ts ∷ clients) (suc i) v at = let x = mapped (client_view p) clients i v at in subst IsBare x.2 (new_bare p _ _)

tails : (v : View) (views : List View) → AreBare (v ∷ views) → AreBare views
tails v views bare i u at = bare (suc i) u at

-- whatever is gathered from such views is nothing
gathers_none : {A : Type 0} (f : View → List A) (views : List View) → AreBare views → ((v : View) → IsBare v → f v ≡ []) → flat_map f views ≡ []
gathers_none f [] bare none_ = refl
gathers_none f (v ∷ views) bare none_ = ap (λ l. l ++ flat_map f views) (none_ v (bare 0 v refl)) ∙ gathers_none f views (tails v views bare) none_

counts_none : (f : Mark → ℕ) (j : ℕ) (views : List View) → AreBare views → total (marks_of f j) views ≡ 0
counts_none f j [] bare = refl
counts_none f j (v ∷ views) bare = let a = ap (λ es. total f (about j es)) (bare 0 v refl).marks in omega (arith, a, counts_none f j views (tails v views bare))

holds_none : (f : Mark → ℕ) (j : ℕ) (views : List View) (seat : ℕ) → AreBare views → get_or (map (marks_of f j) views) seat 0 ≡ 0
holds_none f j [] seat bare = refl
holds_none f j (v ∷ views) zero bare = ap (λ es. total f (about j es)) (bare 0 v refl).marks
holds_none f j (v ∷ views) (suc seat) bare = holds_none f j views seat (tails v views bare)

accepts_none : (v : View) → IsBare v → accepted_by v ≡ []
accepts_none v bare = ap (λ ls. flat_map (λ (es : List Entry). es) ls) bare.lists

-- ## The programs

all_append : {A : Type 0} (P : A → Type 0) (xs ys : List A) → AllByRecursion P xs → AllByRecursion P ys → AllByRecursion P (xs ++ ys)
all_append P [] ys a b = b
all_append P (x ∷ xs) ys a b = (a.0, all_append P xs ys a.1 b)

clients_guarded : (sizes : Sizes) (clients : List (List Task)) → AllByRecursion (Guarded Unknown) (programs sizes clients)
clients_guarded sizes [] = tt
clients_guarded sizes (ts ∷ clients) = (client_guarded sizes [] ts, clients_guarded sizes clients)

rests_guarded : (n : ℕ) → AllByRecursion (Guarded Unknown) (replicate n Rest)
rests_guarded zero = tt
rests_guarded (suc n) = (tt, rests_guarded n)

readers_guarded : (calls : List ℕ) (k : ℕ) (os : List ℕ) → AllByRecursion (Guarded Unknown) (readers_from calls k os)
readers_guarded calls k [] = tt
readers_guarded calls k (o ∷ os) = (reader_guarded calls k o, readers_guarded calls (k + 1) os)

-- each seat's program keeps to it
pub all_guarded : (sizes : Sizes) (clients : List (List Task)) (calls os : List ℕ) → AllByRecursion (Guarded Unknown) (all_programs (programs sizes clients) (readers_from calls 0 os))
all_guarded sizes clients calls os = all_append (Guarded Unknown) (programs sizes clients) (replicate (32 - length (programs sizes clients)) Rest ++ readers_from calls 0 os) (clients_guarded sizes clients)
    (all_append (Guarded Unknown) (replicate (32 - length (programs sizes clients)) Rest) (readers_from calls 0 os) (rests_guarded (32 - length (programs sizes clients))) (readers_guarded calls 0 os))

-- ## The beginning

module _ (p : Plan) (q : IdPlan) (qs : List Program) (clients : List (List Task)) where
  abbrev views : List View
  views = opening_views p clients

  abbrev core : Core
  core = beginning p q qs

  bare : AreBare views
  bare = opening_bare p clients

  rests_at : (k : ℕ) → k < p.links → stand p core views k ≡ record { placed = 0; took = [] }
  rests_at k inside =
      ap (λ rs. by_rights rs (link_home (λ (home : Home). home) p (opening_homes p) k) (flat_map (hands_on k) views)) (gathers_none (rights_on k) views bare (λ v b. ap (λ rs. rights_on k (record v { rights = rs })) b.rights))
      ∙ (ap (by_home (link_home (λ (home : Home). home) p (opening_homes p) k)) (gathers_none (hands_on k) views bare (λ v b. ap (λ hs. hands_on k (record v { hands = hs })) b.hands))
      ∙ ap (λ h. by_home h []) (ap took_of (at_home p k inside)))

  pub new_world : IsNew p (world_of p core views none_stopped)
  new_world = record {
    lives = λ i. record {
      births = λ l. counts_none (is_born l.version) l.slot views bare i;
      fails = λ l. counts_none (is_failer l.version) l.slot views bare i;
      ends = λ l. counts_none (is_freer l.version) l.slot views bare i;
      holds = λ seat l. holds_none (is_hold l.version) l.slot views seat bare i;
    };
    links = λ l k. counts_none (is_linked l.version k) l.slot views bare;
    accepted = gathers_none accepted_by views bare accepts_none;
    placed = λ k inside. ap (λ (s : Stand). s.placed) (rests_at k inside);
    took = λ k inside. ap (λ (s : Stand). s.took) (rests_at k inside);
    request = λ r inside. beyond p (request_index p r) (omega arith);
    stopped = λ k. refl;
  }

  begins_guarded : AllByRecursion (Guarded Unknown) qs → (i : ℕ) (seat : SeatState) → get_elem? core.seats i ≡ some seat → Guarded Unknown seat.program
  begins_guarded guarded i seat at = let x = mapped (λ (program : Program). record { program = next_step (resolved [] program); hand = [] }) qs i seat at in
      subst (λ (s : SeatState). Guarded Unknown s.program) x.2 (come_guarded Unknown [] x.0 (all_at (Guarded Unknown) qs i x.0 guarded x.1))

  pub begins_kept : AllByRecursion (Guarded Unknown) qs → RetriesGo p → Sound p core views → Kept p core views none_stopped
  begins_kept guarded go sound = record {
    sound = sound;
    retries_go = go;
    modes = λ i. Unknown;
    guarded = begins_guarded guarded;
    fits = λ i v at r one. tt;
    stops = λ k e. absurd (true≢false (sym e));
  }

  pub begins_full : AreFull views
  begins_full i v at = none_full v (bare i v at).claims

  pub none_accepted : flat_map accepted_by views ≡ []
  none_accepted = gathers_none accepted_by views bare accepts_none

  -- no seat is at a put
  pub none_puts : AllByRecursion (Guarded Unknown) qs → (k s : ℕ) → AtPut k s core → ⊥
  none_puts guarded k s put = let x = guarded_put Unknown k put.0.program (begins_guarded guarded s put.0 put.1) put.2 in unknown_live x.0 x.1
