-- Where more links failed, a program explains what it did.
use Rattle.std.proofs.Common.{ℕ, List, [], ◌∷◌, inl, inr}
use Rattle.std.specs.Prelude.{Some, None}
use Rattle.seat_programs.specs.sock_io.specs.declared.link.Put.{Put}
use Rattle.seat_programs.specs.sock_io.specs.declared.link.Put.TheVariants as puts
use Rattle.seat_programs.specs.sock_io.specs.declared.link.Ready.{Ready}
use Rattle.seat_programs.specs.sock_io.specs.declared.link.Ready.TheVariants as asks
use Rattle.sock_words.specs.declared.plain.Plan.{Plan}
use Rattle.seat_programs.specs.declared.task.Task.{Task}
use Rattle.sock_words.specs.PackedWords.{socket_id_version, socket_id_slot}
use Rattle.seat_programs.specs.TableSteps.{TableStep, OnSlot, AddRef, SetOdd, LookWord}
use Rattle.seat_programs.specs.Programs.{Program, Do, Say, Sent, Rest, TakeMessage, TakeHome, PutHome, PutBytes, AskReady, Write, Aside, Round, Keep, Retries}
use Rattle.outcome_stories.specs.OperationStories.{Entry, Event, trace_of}
use Rattle.outcome_stories.specs.Explains.{Way, Own, Beside, Closing, Done, Fits, FitsBeside, ExplainsBy, step, broken_put, broken_ready}
use Rattle.outcome_stories.specs.StoryStepCauses.{WasFailed, FoundCause, Good}
use Rattle.outcome_ticks.proofs.SendingExplained.{Within}

pub fits_more : (t : Task) (bs more : List ℕ) (trace : List Entry) → Within bs more → (call : TableStep) → Fits t bs trace call → Fits t more trace call
fits_more t bs more trace w (OnSlot (SetOdd i)) (inl f) = inl f
fits_more t bs more trace w (OnSlot (SetOdd i)) (inr f) = inr (f.0, f.1, f.2, f.3, w f.1 f.4)
fits_more t bs more trace w _ f = f

within_on : (k : ℕ) (bs more : List ℕ) → Within bs more → Within (k ∷ bs) (k ∷ more)
within_on k bs more w x (inl e) = inl e
within_on k bs more w x (inr m) = inr (w x m)

pub put_within : (k : ℕ) (answer : Put) (bs more : List ℕ) → Within bs more → Within (broken_put k answer bs) (broken_put k answer more)
put_within k puts.Failed bs more w = within_on k bs more w
put_within k _ bs more w = w

pub ready_within : (k : ℕ) (answer : Ready) (bs more : List ℕ) → Within bs more → Within (broken_ready k answer bs) (broken_ready k answer more)
ready_within k asks.Failed bs more w = within_on k bs more w
ready_within k _ bs more w = w

pub beside_more : (calls : ℕ → Type 0) (bs more : List ℕ) (trace : List Entry) → Within bs more → (call : TableStep) → FitsBeside calls bs trace call → FitsBeside calls more trace call
beside_more calls bs more trace w (OnSlot (SetOdd i)) f = (f.0, f.1, f.2, f.3, w f.1 f.4)
beside_more calls bs more trace w _ f = f

module _ (slots requests : ℕ) (calls : ℕ → Type 0) where
  pub explains_more : (y : Way) (q : Program) (bs more : List ℕ) (done : List Done) (trace : List Entry) (todo : List Task) → Within bs more → ExplainsBy slots requests calls y bs done trace todo q → ExplainsBy slots requests calls y more done trace todo q
  explains_more Own (Do call next) bs more done trace [] w x = (x.0, λ found. explains_more Own (next found) bs more done trace [] w (x.1 found))
  explains_more Own (Do call next) bs more done trace (t ∷ ts) w x = (fits_more t bs more trace w call x.0, λ found. explains_more Own (next found) bs more done (step call found ∷ trace) (t ∷ ts) w (x.1 found))
  explains_more Beside (Do call next) bs more done trace todo w x = (beside_more calls bs more trace w call x.0, λ found. explains_more Beside (next found) bs more done (step call found ∷ trace) todo w (x.1 found))
  explains_more Closing (Do call next) bs more done trace todo w x = (x.0, λ found. explains_more Closing (next found) bs more done trace todo w (x.1 found))
  explains_more Own (Say o outcome then_) bs more done trace [] w x = (x.0, explains_more Own then_ bs more done trace [] w x.1)
  explains_more Own (Say o outcome then_) bs more done trace (t ∷ ts) w (inl x) = inl (x.0, x.1, x.2, explains_more Own then_ bs more (record { task = t; outcome = Some outcome } ∷ done) [] ts w x.3)
  explains_more Own (Say o outcome then_) bs more done trace (t ∷ ts) w (inr x) = inr (x.0, explains_more Own then_ bs more done trace (t ∷ ts) w x.1)
  explains_more Beside (Say o outcome then_) bs more done trace todo w x = (x.0, explains_more Beside then_ bs more done trace todo w x.1)
  explains_more Closing (Say o outcome then_) bs more done trace todo w x = (x.0, explains_more Closing then_ bs more done trace todo w x.1)
  explains_more Own (Sent o then_) bs more done trace [] w x = absurd x
  explains_more Own (Sent o then_) bs more done trace (t ∷ ts) w x = (x.0, x.1, x.2, explains_more Own then_ bs more (record { task = t; outcome = None } ∷ done) [] ts w x.3)
  explains_more Beside (Sent o then_) bs more done trace todo w x = absurd x
  explains_more Closing (Sent o then_) bs more done trace todo w x = absurd x
  explains_more y Rest bs more done trace todo w x = x
  explains_more y (TakeMessage q next) bs more done trace todo w x = λ heading bytes. explains_more y (next heading bytes) bs more done trace todo w (x heading bytes)
  explains_more y (TakeHome k next) bs more done trace todo w x = λ places. explains_more y (next places) bs more done trace todo w (x places)
  explains_more y (PutHome k n after) bs more done trace todo w x = explains_more y after bs more done trace todo w x
  explains_more y (PutBytes k asked bytes next) bs more done trace todo w x = λ answer. explains_more y (next answer) (broken_put k answer bs) (broken_put k answer more) done trace todo (put_within k answer bs more w) (x answer)
  explains_more y (AskReady k next) bs more done trace todo w x = λ answer. explains_more y (next answer) (broken_ready k answer bs) (broken_ready k answer more) done trace todo (ready_within k answer bs more w) (x answer)
  explains_more Own (Write v after) bs more done trace [] w x = absurd x
  explains_more Own (Write v after) bs more done trace (t ∷ ts) w x = (x.0, λ longer others g within. x.1 longer others g (λ k m. within k (w k m)))
  explains_more Beside (Write v after) bs more done trace todo w x = (x.0, λ longer others within. x.1 longer others (λ k m. within k (w k m)))
  explains_more Closing (Write v after) bs more done trace todo w x = absurd x
  explains_more y (Aside s next) bs more done trace todo w x = (x.0, λ found is. explains_more y (next found) bs more done trace todo w (x.1 found is))
  explains_more y (Round head next) bs more done trace todo w x = (x.0, λ exit is. explains_more y (next exit) bs more done trace todo w (x.1 exit is))
  explains_more y (Keep r next) bs more done trace todo w x = explains_more y next bs more done trace todo w x
  explains_more y (Retries n after) bs more done trace todo w x = (x.0, (x.1.0, x.1.1, explains_more x.1.0 after bs more done [] todo w x.1.2))

module _ (p : Plan) (clients : List (List Task)) (bs more : List ℕ) (w : Within bs more) where
  pub failed_more : (es : List Event) (i h : ℕ) → WasFailed bs es i h → WasFailed more es i h
  failed_more es i h (inl f) = inl f
  failed_more es i h (inr f) = inr (f.0, w f.0 f.1, f.2)

  pub means_more : (es : List Event) (trace : List Entry) (call : TableStep) (found : ℕ) → FoundCause p bs es trace call found → FoundCause p more es trace call found
  means_more es trace (OnSlot (AddRef id)) found m = λ ne. failed_more es (socket_id_slot id) (socket_id_version id) (m ne)
  means_more es trace (OnSlot (SetOdd i)) found m = λ h held. ((m h held).0, λ odd. failed_more es i h ((m h held).1 odd))
  means_more es trace (OnSlot (LookWord id)) found m = λ held odd. failed_more es (socket_id_slot id) (socket_id_version id) (m held odd)
  means_more es trace _ found m = m

  pub good_more : (es : List Event) → Good p clients bs es → Good p clients more es
  good_more [] good = tt
  good_more (e ∷ es) good = (
    record {
      order = good.0.order;
      setup = good.0.setup;
      task = good.0.task;
      is = good.0.is;
      numbered = good.0.numbered;
      fits = fits_more good.0.task bs more _ w e.entry.call good.0.fits;
      means = means_more es (trace_of e.client e.number es) e.entry.call e.entry.found good.0.means;
    },
    good_more es good.1,
  )
