-- A link that is read, calls that are ended behind all links, and what is told of calls by that.
use Rattle.std.proofs.Common.{ℕ, Bool, List, [], ◌++◌, refl, arith}
use Rattle.brpc_model.specs.Frame as model
use Rattle.corr_core.specs.declared.marks.Plan as ids
use Rattle.sock_io.specs.LinkHalves.{InState}
use Rattle.call_deeds.specs.Below.RpcReader.How.{How}
use Rattle.call_deeds.specs.Below.RpcReader.HowVariants as how
use Rattle.call_deeds.specs.Below.RpcReader.ReaderBooks.{Books}
use Rattle.call_deeds.specs.Below.RpcReader.LinkReading.{code_of}
use Rattle.call_deeds.specs.Below.RpcReader.ReaderRunFromOpen.{ReadLink}
use Rattle.call_deeds.specs.Below.RpcReader.CallsLeftAfterReading.{RestEnded}
use Rattle.call_told.specs.TellersOfCallEnds.{IsGiven, AreGiven, IsLossCode, at_end, at_fault, at_want, ToldFrom, TellsFrom}
use Rattle.call_told.proofs.NotesStay.{Later}
use Rattle.call_told.proofs.GivenResponseFrames.{given_by}
use Rattle.call_told.proofs.Gains.{met_bytes, rest_bytes}
use Rattle.call_told.proofs.CallEndsByReaders.{Step, laws, posted_all, rest_step}
use Rattle.call_told.proofs.CallEndsToldStepwise.{step_then, frames_step}

pub loss_of : (h : How) → IsLossCode (code_of h)
loss_of how.Fault = at_fault refl
loss_of how.NoMemory = at_want refl
loss_of _ = at_end refl

-- ## One link

-- what a link gave: what was cut into frames, and what was thrown away behind it
module _ (q : ids.Plan) (link : ℕ) (calls : List ℕ) (ending short : Bool) (s t : InState) (b b' : Books) (r : ReadLink q link calls ending short s t b b') where
  abbrev cut_bytes : List ℕ
  cut_bytes = met_bytes q link calls ending short s t b b' r

  abbrev pub read_bytes : List ℕ
  read_bytes = cut_bytes ++ rest_bytes q link calls ending short s t b b' r

  -- where all responses of what it gave are among those of these links
  pub read_step : (links : ℕ) (gave : ℕ → List ℕ) → ((f : model.Frame) → IsGiven 1 (λ k. read_bytes) f → IsGiven links gave f) → Step q links gave b b'
  read_step links gave given = let m = r.met in let met = r.read.met in
      step_then q links gave Later (ToldFrom q.slots links gave) (laws q links gave) b m b'
      (frames_step q links gave Later (ToldFrom q.slots links gave) (laws q links gave) met.frames b m (λ i f at responds. given _ (given_by 1 (λ k. read_bytes) 0 cut_bytes (rest_bytes q link calls ending short s t b b' r) r.read.left met.frames (omega arith) refl met.cut i f at responds)) met.met)
      (posted_all q links gave (code_of r.how) (loss_of r.how) link calls m b' r.posted)

-- ## What is left of calls

pub rest_later : (q : ids.Plan) (code : ℕ) (os : List ℕ) (b b' : Books) → IsLossCode code → RestEnded q code os b b' → Later b.view b'.view
rest_later q code os b b' loss rest = (rest_step q 0 (λ k. []) code loss os b b' rest).later

-- what was left of calls was ended with this code, with responses kept that those links gave
pub rest_told : (links : ℕ) (gave : ℕ → List ℕ) (q : ids.Plan) (code : ℕ) (os : List ℕ) (b b' : Books) → IsLossCode code → RestEnded q code os b b' → AreGiven links gave b.early → TellsFrom q.slots links gave b b'
rest_told links gave q code os b b' loss rest given = (rest_step q links gave code loss os b b' rest).tells given
