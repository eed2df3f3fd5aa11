-- The report of a run fits the script, and is the only one of a run in which the links answered the same.
use Rattle.std.proofs.Common.{◌≡◌, refl, ◌⊎◌, ℕ, zero, suc, ◌*◌, ◌<◌, ◌≤◌, true, List, [], ◌∷◌, length, Option, Some, None, IfSome, Ok, Contains, ap, sym, ◌∙◌, subst, arith}
use Rattle.std.specs.Prelude.{slice_get, is_some}
use Rattle.std.specs.List.{AllByRecursion}
use Rattle.std.proofs.lemmas.Option.{slice_get_within, same_Some}
use native.Mathlib.Decide.{dec_lt}
use mathlib.Core.Logic.{dite}
use Rattle.brpc_model.specs.Items.{Item}
use Rattle.brpc_model.specs.Operations.{Turn}
use Rattle.brpc_model.specs.DrawnSeatsAndScripts.{generated}
use Rattle.brpc_model.specs.Script.{script_of}
use Rattle.brpc_model.specs.ScriptText.{script_text}
use Rattle.brpc_model.specs.ReturnedLink.{LinkEnd}
use Rattle.brpc_model.specs.PlaceWords.{took_at, IsLineOf}
use Rattle.brpc_model.specs.Run.{Lateness, nothing_late}
use Rattle.brpc_model.specs.ReportFits.{Fits}
use Rattle.brpc_model.specs.Complete.{FitsWhole}
use Rattle.brpc_model.specs.ServedForTakenBytes.{FitsServed}
use Rattle.seat_programs.specs.Asides.{Broken}
use Rattle.seat_programs.specs.ScriptSetupToEnding.{drawn_turns, place_words}
use Rattle.seat_programs.specs.ScriptSetupToEnding as scripts
use Rattle.seat_programs.specs.Tasks.{plan_of}
use Rattle.seat_programs.specs.ExplainedCalls.{Fixed}
use Rattle.script_threads.specs.script_parts.specs.script_facts.proofs.FilteredLists.{within, has_from, has_none}
use Rattle.script_threads.specs.script_parts.specs.report_fits.proofs.PrintableCallRun.{lateness}
use Rattle.calls_over.specs.Below.call_stories.specs.LinkReadingLists.{gave_in}
use Rattle.calls_over.specs.Below.run_theorems.specs.Heard.{as_told, as_taken, take_answers, heard_of, heard_takes}
use Rattle.calls_over.specs.Below.run_theorems.specs.Unserved.{IsInTime}
use Rattle.calls_over.specs.Below.run_theorems.proofs.HeardRuns.{one_text_told}
use Rattle.calls_over.specs.Below.run_theorems.proofs.GaveTakeByTake.{same_takes}
use Rattle.calls_over.specs.Below.run_theorems.proofs.RunLengths.{ended_length}
use Rattle.calls_over.specs.Below.run_theorems.proofs.ScriptStartsSoundly.{made}
use Rattle.calls_over.specs.served_fits.specs.offered_runs.specs.served_runs.specs.OfferedReplies.{OffersInRun}
use Rattle.calls_over.specs.served_calls.specs.QuietRuns.{AreShown}
use Rattle.calls_over.specs.served_fits.specs.LatenessKnownOfRun.{AreSo, TellTook}
use Rattle.calls_over.proofs.CallsOver.{calls_over}
use Rattle.calls_over.specs.served_fits.proofs.ServedReportFits.{serves_fits}
use Rattle.calls_over.specs.served_fits.specs.offered_runs.proofs.OffersAlongRun.{offers_in_run}
use Rattle.script_run.specs.RunOutcomeCauses.{HasCauses}
use Rattle.sock_io.specs.declared.link.Mode.{Mode}
use Rattle.script_links.specs.LinksGivenBack.{AreNumbered, IsBeginning, specs_of}
use Rattle.script_run.specs.Played.{IsWholeRun, IsRunText, IsRunSummary}
use Rattle.brpc_eng.specs.ProgramAnswers as answer
use Rattle.brpc_eng.specs.WholeSourceRead.{script_limit}
use Rattle.brpc_eng.proofs.Short.{drawn_short}
use Rattle.brpc_eng.proofs.Untroubled.{told_fits, callless_fits}

-- two texts of runs
same_text : (offering any : Type 0) (turns : List Turn) (script : List Item) (a b : List ℕ) (xs ys : List LinkEnd) (r : IsRunText any script turns a xs) (s : IsRunText offering script turns b ys) → r.took ≡ s.took → answer.SameAnswers r.whole.run s.whole.run → a ≡ b
same_text offering any turns script a b xs ys r s took same =
    let reports : scripts.Reports script r.whole.core s.took r.report = subst (λ (t : List (List ℕ)). scripts.Reports script r.whole.core t r.report) took r.reports in
    r.is_text ∙ one_text_told script turns r.whole.core s.whole.core r.report s.report s.took r.whole.run s.whole.run reports s.reports same.0 same.1 ∙ sym s.is_text

-- ## Links that tell all

all_at : {A : Type 0} (P : A → Type 0) (xs : List A) (k : ℕ) (x : A) → AllByRecursion P xs → slice_get xs k ≡ Some x → P x
all_at P [] k x all at = absurd (cc)
all_at P (y ∷ ys) zero x all at = subst P (same_Some y x at) all.0
all_at P (y ∷ ys) (suc k) x all at = all_at P ys k x all.1 at

one_told : {A : Type 0} (told : Option A) (x y : A) → is_some told ≡ true → IfSome told (λ said. x ≡ said) → IfSome told (λ said. y ≡ said) → x ≡ y
one_told None x y tells h k = absurd (cc)
one_told (Some said) x y tells h k = h ∙ sym k

turned : {A : Type 0} (told : Option A) (x : A) → IfSome told (λ said. said ≡ x) → IfSome told (λ said. x ≡ said)
turned None x h = tt
turned (Some said) x h = sym h

module _ (offering any : Type 0) (bytes : List ℕ) (script : List Item) (reads : script_of bytes ≡ Ok script) (turns : List Turn) (a b : List ℕ) (ends : List LinkEnd) (tell : answer.AllTell ends) (r : IsRunText any script turns a ends) (s : IsRunText offering script turns b ends) where
  abbrev there : (k : ℕ) → k < length ends → (e : LinkEnd) × (slice_get ends k ≡ Some e) × answer.TellsAll e
  there k inside = let e = within ends k inside in (e.0, e.1, all_at answer.TellsAll ends k e.0 tell e.1)

  same_took : (k : ℕ) → k < length ends → took_at r.took k ≡ took_at s.took k
  same_took k inside = let e = there k inside in one_told e.0.took (took_at r.took k) (took_at s.took k) e.2.took (r.told k e.0 e.1) (s.told k e.0 e.1)

  same_answers : (k : ℕ) → as_told (heard_of r.whole.run k) ≡ as_told (heard_of s.whole.run k)
  same_answers k = dite (dec_lt k (length ends))
      (λ inside. let e = there k inside in
      one_told e.0.answers (as_told (heard_of r.whole.run k)) (as_told (heard_of s.whole.run k)) e.2.answers (turned e.0.answers _ (r.whole.heard.each k e.0 e.1)) (turned e.0.answers _ (s.whole.heard.each k e.0 e.1)))
      (λ past. ap as_told (r.whole.heard.none_beyond k (omega (arith, past)) ∙ sym (s.whole.heard.none_beyond k (omega (arith, past)))))

  same_heard : (k : ℕ) → heard_takes r.whole.run k ≡ heard_takes s.whole.run k
  same_heard k = dite (dec_lt k (length ends))
      (λ inside. let e = there k inside in let many = r.ends_told.as_many in
      same_takes bytes script reads turns r.whole.core s.whole.core r.whole.run s.whole.run k (omega (arith, inside, many))
      (one_told e.0.takes (take_answers (heard_takes r.whole.run k)) (take_answers (heard_takes s.whole.run k)) e.2.takes (turned e.0.takes _ (r.whole.heard.each_take k e.0 e.1)) (turned e.0.takes _ (s.whole.heard.each_take k e.0 e.1)))
      (one_told e.0.gave (gave_in r.whole.core k) (gave_in s.whole.core k) e.2.gave (turned e.0.gave _ (r.ends_told.each k e.0 e.1).gives) (turned e.0.gave _ (s.ends_told.each k e.0 e.1).gives)))
      (λ past. ap as_taken (r.whole.heard.no_take_beyond k (omega (arith, past)) ∙ sym (s.whole.heard.no_take_beyond k (omega (arith, past)))))

  reports : scripts.Reports script r.whole.core s.took r.report
  reports = record {
    outcomes = r.reports.outcomes;
    line_each = r.reports.line_each;
    links = λ k line at. let inside = slice_get_within r.report.links k line at in let each = r.reports.line_each in let many = r.ends_told.as_many in
        subst (λ (bytes : List ℕ). IsLineOf (place_words (plan_of script) r.whole.core.words) k bytes line) (same_took k (omega (arith, inside, each, many))) (r.reports.links k line at);
  }

  -- there is one text
  pub told_text : a ≡ b
  told_text = r.is_text ∙ one_text_told script turns r.whole.core s.whole.core r.report s.report s.took r.whole.run s.whole.run reports s.reports same_answers same_heard ∙ sym s.is_text

-- ## A report

nothing_there : (x : ℕ) (xs : List ℕ) → xs ≡ [] → Contains xs x → ⊥
nothing_there x xs none_ there = has_none x (has_from [] x (subst (λ (l : List ℕ). Contains l x) none_ there))

-- where a run fixes that nothing came late
in_time : (script : List Item) (fixed : Fixed) → lateness fixed ≡ nothing_late → IsInTime script fixed
in_time script fixed none_ = record {
  none_late = λ o op name bytes at is there. nothing_there o fixed.late (ap (λ (l : Lateness). l.operations) none_) there;
  no_late_link = λ k there. nothing_there k fixed.late_links (ap (λ (l : Lateness). l.links) none_) there;
}

module _ (offering : Type 0) (turns : List Turn) (bytes : List ℕ) (script : List Item) (reads : script_of bytes ≡ Ok script) (short : length bytes ≤ script_limit) (ends : List LinkEnd) (text : List ℕ) (is : IsRunText offering script turns text ends) where
  abbrev w : IsWholeRun offering script turns ends
  w = is.whole

  abbrev causes : HasCauses script turns w.core w.run
  causes = is.causes.0

  -- what came late is what is fixed of the run
  so : AreSo script turns w.core w.run causes.fixed causes.tells.last
  so = record { last = causes.last; late = causes.late.operations; late_links = causes.late.links }

  -- ### Where the links tell what they took, gave and are offered

  module _ (o : offering) where
    given : OffersInRun script turns w.core w.run
    given = offers_in_run script (made bytes script reads) turns w.core w.run (w.offers o) (w.closes o)

    -- a link of which a take failed shows it
    shown : AreShown script turns w.core w.run causes.fixed ends
    shown = (
      causes.early,
      λ k e there numbered failed. let j = has_from ends e there in
          w.shows o k e (subst (λ n. slice_get ends n ≡ Some e) (sym (is.ends_told.each j.0 e j.1).numbered ∙ numbered) j.1) Broken failed,
    )

    tell_took : TellTook script ends
    tell_took k e shape at opened serves = w.tells o k e at

    serves : FitsServed script text ends (lateness causes.fixed)
    serves = subst (λ (x : List ℕ). FitsServed script x ends (lateness causes.fixed)) (sym is.is_text)
        (serves_fits bytes script reads short turns w.core w.run (w.closes o) given causes.fixed causes.orders causes.tells so is.report is.took ends is.reports is.told is.causes.1 shown causes.late_links tell_took
        (calls_over bytes script reads short turns w.core w.run (w.closes o) given causes.fixed causes.orders causes.tells so is.report is.took ends is.reports is.told is.causes.1 shown causes.all_broken))

  -- ### In any case

  -- the report of the text fits
  fits : answer.IsFitting offering is
  fits =
      let long = ended_length bytes script reads turns w.core w.run in (
        lateness causes.fixed,
        causes.late,
        causes.none_late,
        subst (λ (x : List ℕ). Fits script x ends (lateness causes.fixed)) (sym is.is_text)
            (told_fits bytes script reads w.core causes.fixed (gave_in w.core) causes.orders long causes.tells is.report is.took ends is.reports is.told is.causes.1),
        λ callless. subst (λ (x : List ℕ). FitsWhole script x ends (lateness causes.fixed)) (sym is.is_text)
            (callless_fits bytes script reads w.core causes.fixed (gave_in w.core) causes.orders long causes.tells is.report is.took ends is.reports is.told is.causes.1 callless (in_time script causes.fixed (causes.none_late callless))),
        serves,
      )

  -- and it is the only one
  only : answer.IsOnlyText offering ends script turns text
  only = (
    is,
    λ other ends' run took same. same_text offering ⊥ turns script other text ends' ends run is took same,
    λ tell other run. told_text offering ⊥ bytes script reads turns other text ends tell run is,
  )

-- with what the calls say of the values that they were handed
pub ran_reported : (turns : List Turn) (bytes : List ℕ) (script : List Item) (text text' : List ℕ) (out : answer.Output) (links : answer.Links) (status : ℕ) →
    script_of bytes ≡ Ok script → length bytes ≤ script_limit → (links.always_ready ≡ true → links.tells → IsRunText links.offering script turns text links.ends) → text' ≡ text → answer.TextWritten out text' status →
    answer.Ran turns script out links status
ran_reported turns bytes script text text' out links status reads short ran t wrote =
    let report : links.always_ready ≡ true → links.tells → IsRunText links.offering script turns text' links.ends = λ q tells. subst (λ (x : List ℕ). IsRunText links.offering script turns x links.ends) (sym t) (ran q tells) in
    answer.Reported text'
    (λ q tells. let r = report q tells in (r, fits links.offering turns bytes script reads short links.ends text' r))
    (λ q tells. only links.offering turns bytes script reads short links.ends text' (report q tells)) wrote

-- ## A summary

-- no link was opened
pub opened_none : (mode : Mode) (script : List Item) (links : answer.Links) (status : ℕ) → links.asked ≡ [] → links.ends ≡ [] → ((status ≡ 0) ⊎ (status ≡ 5) → ⊥) → answer.OpenedBy mode script links status
opened_none mode script links status asked ends unwritten = record {
  front = subst (λ l. IsBeginning l (specs_of mode script)) (sym asked) (specs_of mode script, refl);
  whole = λ written. absurd (unwritten written);
  given_back = ap length ends ∙ sym (ap length asked);
  numbered = subst (AreNumbered 0) (sym ends) tt;
}

-- with what the calls say of the values that they were handed
pub load_ran : (seed clients count drawn : ℕ) (script : List Item) (text text' : List ℕ) (out : answer.Output) (links : answer.Links) (status : ℕ) → script ≡ generated seed clients count → drawn ≡ seed → clients ≤ 31 → clients * count ≤ 4092 → script_of (script_text script) ≡ Ok script →
    (links.always_ready ≡ true → links.tells → IsRunSummary links.offering (record { seed = seed; clients = clients; operations = count }) script (drawn_turns script drawn) text links.ends) → text' ≡ text → answer.TextWritten out text' status →
    answer.LoadRan seed clients count out links status
load_ran seed clients count drawn script text text' out links status made same few room reads ran t wrote = answer.LoadSummed text' (subst Sums made sums) wrote
  where
    Sums : List Item → Type 0
    Sums s = links.always_ready ≡ true → links.tells → (whole : List ℕ) × answer.IsReport links s (drawn_turns s seed) whole × answer.IsOnlyText links.offering links.ends s (drawn_turns s seed) whole × answer.SumsUp seed clients count s whole text'

    short : length (script_text script) ≤ script_limit
    short = subst (λ (s : List Item). length (script_text s) ≤ script_limit) (sym made) (drawn_short seed clients count few room)

    sums : Sums script
    sums q tells = let r = ran q tells in let is = subst (λ d. IsRunText links.offering script (drawn_turns script d) r.whole links.ends) same r.reported in (
      r.whole,
      (λ q tells. (is, fits links.offering (drawn_turns script seed) (script_text script) script reads short links.ends r.whole is)),
      only links.offering (drawn_turns script seed) (script_text script) script reads short links.ends r.whole is,
      (r.reported.report, r.reported.is_text, t ∙ r.sums),
    )
