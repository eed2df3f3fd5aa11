-- Along the ticks of a run each attempt that stands anywhere is of a version below the end of its range, and so is each request that a link took; so no response that the link gave came before its call began.
use Rattle.std.proofs.Common.{◌≡◌, ℕ, zero, suc, ◌+◌, ◌<◌, ◌≤◌, ⊎_elim, cond, List, [], ◌∷◌, length, replicate, flat_map, ap, ◌∙◌, arith}
use Rattle.std.specs.List.{AllByRecursion}
use Rattle.std.specs.Prelude.{slice_get, Some, IsTrue}
use mathlib.Core.Option.{Option, none, some}
use lib.ListN.{get_elem?}
use Rattle.sock_words.specs.declared.plain.Plan.{Plan}
use Rattle.sock_model.specs.declared.view.View.{View}
use Rattle.brpc_model.specs.Items.{Item, Shape}
use Rattle.brpc_model.specs.Operations.{link_shapes}
use Rattle.brpc_model.specs.ServedForTakenBytes.{given_for}
use Rattle.brpc_model.specs.FrameStream.{stream}
use Rattle.corr_core.specs.declared.marks.Plan.{Plan as IdPlan}
use Rattle.sock_message.specs.Asked.{Asked, frame_of}
use Rattle.seat_programs.specs.Cores.{Core, SeatState}
use Rattle.seat_programs.specs.Tasks.{plan_of, id_plan_of}
use Rattle.seat_programs.specs.Ticks.{Moment, IsAnswered, AreAnswered, quiet, ticked, run}
use Rattle.served_fits.specs.Below.programs_allowed.specs.program_steps.specs.SoundSeats.{views_after, views_along}
use Rattle.served_fits.specs.Below.programs_allowed.specs.sock_runs.proofs.LinkTicks.{RetriesGo}
use Rattle.served_fits.specs.Below.joint_runs.proofs.BothTablesSound.{BothSound, FitsBoth, AreBoth, are_fitting}
use Rattle.served_fits.specs.Below.label_runs.specs.AttemptLabelsLeft.{Trial}
use Rattle.served_fits.specs.Below.call_owing.specs.SoundOwing.{id_word_of}
use Rattle.served_fits.specs.Below.run_theorems.proofs.RunLengths.{tick_long}
use Rattle.served_fits.specs.Below.call_stories.specs.LinkReadingLists.{Take, taken_link, takes_by, takes_at, gave_in, soon_by, soon_at}
use Rattle.served_fits.specs.Below.call_causes.proofs.HandledResponses.{bound}
use Rattle.served_fits.specs.Below.call_causes.proofs.HandledTicks.{Known}
use Rattle.served_fits.specs.Below.call_causes.proofs.HandledRuns.{AreKnown}
use Rattle.served_fits.specs.Below.accept_counts.specs.AttemptCounts.{times_of, LabelLaw, StoresOwn, AreLabelled}
use Rattle.served_fits.specs.Below.accept_counts.proofs.TicksKeepAttemptLaw.{label_ticks}
use Rattle.served_fits.specs.served_runs.specs.OfferedReplies.{TookSoFar, AreOffered}
use Rattle.served_fits.specs.served_runs.proofs.RepliesGivenInPart.{IsPart, part_along}
use Rattle.calls_over.proofs.SoonLists.{run_stay}
use Rattle.calls_over.proofs.SoonPieces.{IsLow, low_on, NonePlain, front_low}
use Rattle.served_fits.specs.Below.script_facts.proofs.FilteredLists.{all_map}
use Rattle.calls_over.proofs.SoonPuts.{took_behind, took_before}
use Rattle.calls_over.proofs.SoonReplies.{soon_of, given_late}
use Rattle.served_fits.specs.Below.call_causes.proofs.RunOfCallStory.{in_either as in_two}
use Rattle.calls_over.proofs.SoonWords.{begun_below, words_go}
use Rattle.served_fits.specs.Below.outcome_stories.specs.OperationStories.{In}
use Rattle.sock_words.specs.PackedWords.{id_slot, id_first}
use Rattle.served_fits.specs.Below.outcome_stories.specs.Facts.{shown_in}

module _ (p : Plan) (q : IdPlan) (narrow : q.slots ≤ 65536) (is_call : Asked → Type 0) (short : (asked : Asked) → is_call asked → (id n : ℕ) → length (frame_of asked id n) ≤ 131072) (ids : ℕ → ℕ) (go : RetriesGo p) (k : ℕ) where
  -- how attempts stand at one moment, and what link k took
  pub record Stands (c : Core) (vs : List View) : Type 0 where
    pub trials : List Trial
    pub law : LabelLaw is_call ids p q c vs trials
    pub below : (id n : ℕ) → 0 < times_of id n c vs trials → id_first id + n + 1 < bound (id_word_of c (id_slot id))
    pub took : (took : List ℕ) → TookSoFar p c k took → AllByRecursion (IsLow q c) (stream took).frames

  -- ## A tick

  tick_stands : (c : Core) (vs : List View) (m : Moment) → BothSound p q c vs → FitsBoth p c m → IsAnswered c m → Known q c m → StoresOwn ids c m → BothSound p q (ticked p c m) (views_after p c vs m) → NonePlain k vs → Stands c vs → Stands (ticked p c m) (views_after p c vs m)
  tick_stands c vs m both fits answered known own next plain s = let label = label_ticks p q narrow is_call ids c vs s.trials s.law both.id_views both.ids both.sockets m answered fits.fitting_ids own in record {
    trials = label.0;
    law = label.1;
    below = λ id n some_. ⊎_elim
        (λ old. let low = (s.law.made id n old).0 in let a = s.below id n old in let b = up (id_slot id) low in omega (arith, a, b))
        (λ now. let x = now.1 in begun_below p q (ticked p c m) next.id_views next.ids id n now.0 x.0 x.1 x.2) (label.2 id n some_);
    took = λ took t. all_map (IsLow q c) (IsLow q (ticked p c m)) (λ f l. low_on q c (ticked p c m) up f l) (stream took).frames (⊎_elim (λ old. s.took took old)
        (λ front. front_low p q narrow is_call short ids c vs s.trials s.law s.below both.id_views both.ids k plain both.sockets took front.0 front.1 front.2)
        (took_behind p k go c vs m both.sockets answered fits.fitting took t));
  }
    where
      up : (i : ℕ) → i < q.slots → bound (id_word_of c i) ≤ bound (id_word_of (ticked p c m) i)
      up i low = (words_go p q c m known i low).bound_is

  -- ## Ticks one after another

  first_both : (ms : List Moment) (c : Core) (vs : List View) → AreBoth p q c vs ms → BothSound p q c vs
  first_both [] c vs are = are
  first_both (m ∷ ms) c vs are = are.0

  -- what none of the messages is behind some ticks, none was before
  pub plain_before : (ms : List Moment) (c : Core) (vs : List View) → AreBoth p q c vs ms → AreAnswered p c ms → NonePlain k (views_along p c vs ms) → NonePlain k vs
  plain_before ms c vs both answered none_ e s own plain = none_ e (run_stay p go ms c vs (first_both ms c vs both).sockets answered (are_fitting p q c vs ms both) e s) own plain

  next_stands : (m : Moment) (ms : List Moment) (c : Core) (vs : List View) → AreBoth p q c vs (m ∷ ms) → AreAnswered p c (m ∷ ms) → AreKnown p q c (m ∷ ms) → AreLabelled ids p q c (m ∷ ms) → NonePlain k (views_along p c vs (m ∷ ms)) → Stands c vs
      → Stands (ticked p c m) (views_after p c vs m)
  next_stands m ms c vs both answered known own none_ s = tick_stands c vs m both.0 both.1 answered.0 known.0 own.2 (first_both ms (ticked p c m) (views_after p c vs m) both.2) (plain_before (m ∷ ms) c vs both answered none_) s

  pub run_stands : (ms : List Moment) (c : Core) (vs : List View) → AreBoth p q c vs ms → AreAnswered p c ms → AreKnown p q c ms → AreLabelled ids p q c ms → NonePlain k (views_along p c vs ms) → Stands c vs → Stands (run p c ms) (views_along p c vs ms)
  run_stands [] c vs both answered known own none_ s = s
  run_stands (m ∷ ms) c vs both answered known own none_ s = run_stands ms (ticked p c m) (views_after p c vs m) both.2 answered.1 known.1 own.3 none_ (next_stands m ms c vs both answered known own none_ s)

  -- the link took something all along
  pub run_took : (ms : List Moment) (c : Core) (vs : List View) → AreBoth p q c vs ms → AreAnswered p c ms → (took : List ℕ) → TookSoFar p (run p c ms) k took → (old : List ℕ) × TookSoFar p c k old
  run_took [] c vs both answered took t = (took, t)
  run_took (m ∷ ms) c vs both answered took t = let b = both.0 in let f = both.1 in let r = run_took ms (ticked p c m) (views_after p c vs m) both.2 answered.1 took t in took_before p k go c vs m b.sockets answered.0 f.fitting r.0 r.1

-- ## What the link gave

-- ticks that ask no link find nothing
pub quiet_soon : (p : Plan) (n : ℕ) (c : Core) (x : ℕ × ℕ) → In x (shown_in (soon_at p) p c (replicate n (quiet 0))) → ⊥
quiet_soon p zero c x there = there
quiet_soon p (suc n) c x there = ⊎_elim (λ now. by_seat (get_elem? c.seats 0) now) (λ later. quiet_soon p n (ticked p c (quiet 0)) x later)
    (in_two x (soon_at p c (quiet 0)) (shown_in (soon_at p) p (ticked p c (quiet 0)) (replicate n (quiet 0))) there)
  where
    by_links : (ks : List ℕ) → In x (flat_map (soon_by c (ticked p c (quiet 0))) (takes_by c.calls (quiet 0) ks)) → ⊥
    by_links [] there = there
    by_links (l ∷ ks) there = there

    by_seat : (o : Option SeatState) → In x (flat_map (soon_by c (ticked p c (quiet 0))) (elim o as (λ o. List Take) [ none ↦ [] | some seat ↦ takes_by c.calls (quiet 0) (taken_link seat.program) ])) → ⊥
    by_seat none there = there
    by_seat (some seat) there = by_links (taken_link seat.program) there

module _ (script : List Item) (narrow : (id_plan_of script).slots ≤ 65536) (is_call : Asked → Type 0) (short : (asked : Asked) → is_call asked → (id n : ℕ) → length (frame_of asked id n) ≤ 131072) (ids : ℕ → ℕ) (go : RetriesGo (plan_of script)) (k : ℕ)
    (shape : Shape) (shape_is : slice_get (link_shapes script) k ≡ Some shape) (serves : IsTrue shape.serve) where
  abbrev pub Stands' : Core → List View → Type 0
  Stands' c vs = Stands (plan_of script) (id_plan_of script) narrow is_call short ids go k c vs

  -- no response came before its call began
  pub none_soon : (ms : List Moment) (c : Core) (vs : List View) → AreBoth (plan_of script) (id_plan_of script) c vs ms → AreAnswered (plan_of script) c ms → AreKnown (plan_of script) (id_plan_of script) c ms → AreLabelled ids (plan_of script) (id_plan_of script) c ms
      → NonePlain k (views_along (plan_of script) c vs ms) → AreOffered script c ms → k < length c.calls.gave → IsPart script k shape c → Stands' c vs → (took : List ℕ) → TookSoFar (plan_of script) (run (plan_of script) c ms) k took
      → (j : ℕ) → In (k, j) (shown_in (soon_at (plan_of script)) (plan_of script) c ms) → ⊥
  none_soon [] c vs both answered known own none_ offered low part s took t j there = there
  none_soon (m ∷ ms) c vs both answered known own none_ offered low part s took t j there = ⊎_elim
      (λ now. let old = run_took (plan_of script) (id_plan_of script) narrow is_call short ids go k ms (ticked (plan_of script) c m) (views_after (plan_of script) c vs m) both.2 answered.1 took t in
      let f = soon_of c (ticked (plan_of script) c m) (takes_at c m) k j now in let x = part' old.0 old.1 in
      given_late (id_plan_of script) (ticked (plan_of script) c m) shape.end old.0 (gave_in (ticked (plan_of script) c m) k) x.0 (s'.took old.0 old.1) (x.1 ∙ ap (λ b. cond b (given_for shape old.0) []) serves) f.0 f.1 f.2)
      (λ later. none_soon ms (ticked (plan_of script) c m) (views_after (plan_of script) c vs m) both.2 answered.1 known.1 own.3 none_ offered.1 (let long = (tick_long (plan_of script) m c).gave in omega (arith, long, low)) part' s' took t j later)
      (in_two (k, j) (soon_at (plan_of script) c m) (shown_in (soon_at (plan_of script)) (plan_of script) (ticked (plan_of script) c m) ms) there)
    where
      s' : Stands' (ticked (plan_of script) c m) (views_after (plan_of script) c vs m)
      s' = next_stands (plan_of script) (id_plan_of script) narrow is_call short ids go k m ms c vs both answered known own none_ s

      part' : IsPart script k shape (ticked (plan_of script) c m)
      part' = let b = both.0 in let f = both.1 in part_along script k shape shape_is go (m ∷ []) c vs b.sockets (answered.0, tt) (f.fitting, tt) (offered.0, tt) low part
