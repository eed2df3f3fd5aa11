-- How the run of a script on threads ends, by what its calls say.
use Rattle.std.proofs.Common.{◌≡◌, ◌≢◌, ℕ, ◌⊎◌, inl, inr, true, List, length, Vec, Result, Ok, Err, IfOk, OnOk, IsErrOf, refl, subst, arith}
use Rattle.std.specs.declared.alloc.Global.{Global}
use Rattle.brpc_model.specs.Items.{Item}
use Rattle.brpc_model.specs.ReturnedLink.{LinkEnd}
use Rattle.sock_io.specs.declared.link.Mode.{Mode}
use Rattle.sock_io.specs.declared.link.OpenFault.{OpenFault}
use Rattle.sock_io.specs.declared.link.OpenFault.TheVariants as opening
use Rattle.script_links.specs.LinksGivenBack.{AreNumbered, AreUntouched, IsBeginning, specs_of}
use Rattle.script_threads.specs.ServedLinksOfReport.{IsShort, IsServedText, IsCompleteText}
use Rattle.brpc_eng.specs.ProgramAnswers as answer

-- what a run leaves where a link couldn't be opened
abbrev LeftUnopened : Result (Vec ℕ Global) OpenFault → answer.Links → Type 0
LeftUnopened ran links = (IsErrOf ran opening.Failed → answer.HaveRisen links.faults) × (IsErrOf ran opening.Failed → AreUntouched 0 links.ends)

-- its text is complete, where nothing went wrong
completed : (offering : Type 0) (script : List Item) (text : List ℕ) (ends : List LinkEnd) → IsShort script → IsServedText offering script text ends → IsCompleteText offering script text ends
completed offering script text ends short served = record { served = served; complete = λ offers tell. served.complete offers tell short }

-- a short script was run, over links that were made in this mode
pub threads_ran : (script : List Item) → IsShort script → (ran : Result (Vec ℕ Global) OpenFault) (out : answer.Output) (links : answer.Links) (status : ℕ) (mode made : Mode) → mode ≡ made → IfOk ran (λ text. IsServedText (links.tells_in mode ≡ true) script text.items links.ends) →
    LeftUnopened ran links → answer.RunTold ran out status → answer.RanOnThreads made script out links status
threads_ran script short (Ok text) out links status mode made same is left told =
    answer.ThreadsReported text.items (subst (λ (m : Mode). IsCompleteText (links.tells_in m ≡ true) script text.items links.ends) same (completed (links.tells_in mode ≡ true) script text.items links.ends short is)) told
threads_ran script short (Err opening.Failed) out links status mode made same is left told = answer.ThreadsNotOpened told.0 (left.0 refl) (left.1 refl) told.1
threads_ran script short (Err opening.NoMemory) out links status mode made same is left told = answer.ThreadsRanOut told.0 told.1

-- a report was written or begun only where the run has one
was_run : {A : Type 0} (ran : Result (Vec ℕ Global) OpenFault) (out : answer.Output) (status : ℕ) → answer.RunTold ran out status → OnOk ran A → (status ≡ 0) ⊎ (status ≡ 5) → A
was_run (Ok text) out status told all written = all
was_run (Err opening.Failed) out status told all (inl e) = absurd (omega (arith, e, told.0))
was_run (Err opening.Failed) out status told all (inr e) = absurd (omega (arith, e, told.0))
was_run (Err opening.NoMemory) out status told all (inl e) = absurd (omega (arith, e, told.0))
was_run (Err opening.NoMemory) out status told all (inr e) = absurd (omega (arith, e, told.0))

-- the links were opened in this mode
pub run_opened : (script : List Item) (ran : Result (Vec ℕ Global) OpenFault) (out : answer.Output) (links : answer.Links) (status : ℕ) (mode made : Mode) → mode ≡ made → OnOk ran (links.asked ≡ specs_of mode script) → IsBeginning links.asked (specs_of mode script) →
    length links.ends ≡ length links.asked → AreNumbered 0 links.ends → answer.RunTold ran out status → answer.OpenedBy made script links status
run_opened script ran out links status mode made same whole front given_back numbered told =
    subst (λ (m : Mode). answer.OpenedBy m script links status) same (record { front = front; whole = was_run ran out status told whole; given_back = given_back; numbered = numbered })

-- with another status than 8 each link was opened
pub run_still : {A : Type 0} (ran : Result (Vec ℕ Global) OpenFault) (out : answer.Output) (status : ℕ) → ((IsErrOf ran opening.Failed → ⊥) → A) → answer.RunTold ran out status → status ≢ 8 → A
run_still (Ok text) out status kept told other = kept (λ e. cc)
run_still (Err opening.Failed) out status kept told other = absurd (other told.0)
run_still (Err opening.NoMemory) out status kept told other = kept (λ e. cc)
