-- How the program ends, over an outside that it makes itself.
use Rattle.std.specs.Prelude.{ℕ, ◌≡◌, Bool, true, false, List, [], ◌∷◌, codes, bytes_eq}
use Rattle.sock_io.specs.LinkHalves.{OutState, InState, LinkerState}
use Rattle.sock_io.specs.declared.link.Mode.{Mode}
use Rattle.brpc_eng.specs.ProgramAnswers.{Input, Output, Links, UnusedLinker, linker_over}
use Rattle.brpc_eng.specs.script_run.specs.Played.{TellClosed}
use Rattle.brpc_further.specs.FurtherAnswers.{FurtherAnswers, FurtherAnswersAlone, may_wait}
use Rattle.script_links.specs.OfferedLinks.{TellOffers}

-- how words are answered by a number, over a source, a sink and links
abbrev pub Answering : Type 1
Answering = List (List ℕ) → Input → Output → Links → ℕ → Type 0

-- these words were answered so, with this number, over a source and a sink that had no fault before, and over a linker that was not used before
pub record EndsOver (Answered : Answering) (tells offering : Type 0) (tells_in : Mode → Bool) (words : List (List ℕ)) (number : ℕ) : Type 0 where
  pub input : Input
  pub out : Output
  pub unused : LinkerState
  pub left : LinkerState
  pub source_sound : input.faults.before ≡ 0
  pub sink_sound : out.faults.before ≡ 0
  pub is_unused : UnusedLinker unused
  pub answered : Answered words input out (linker_over tells offering tells_in unused left) number

-- ## Over a linker of a kind, by which of its links go by their shapes, and by what its halves tell

-- the words were answered
abbrev pub Ends : {A B : Type 0} → (goes : Mode → Bool) → (A → OutState) → (B → InState) → (tells_in : Mode → Bool) → List (List ℕ) → ℕ → Type 0
Ends goes out inn tells_in words number = EndsOver FurtherAnswers (TellClosed inn) (TellOffers goes out inn) tells_in words number

-- they were answered without a wait
abbrev pub EndsAlone : {A B : Type 0} → (goes : Mode → Bool) → (A → OutState) → (B → InState) → (tells_in : Mode → Bool) → List (List ℕ) → ℕ → Type 0
EndsAlone goes out inn tells_in words number = EndsOver FurtherAnswersAlone (TellClosed inn) (TellOffers goes out inn) tells_in words number

-- the first word is `serve`
abbrev pub begins_with_serve : List (List ℕ) → Bool
begins_with_serve [] = false
begins_with_serve (word ∷ more) = bytes_eq word (codes "serve")

-- Words that ask for nothing that may wait end so, over links of one kind; of others those that begin with `serve` over links of one more kind, and the rest over links of a third
abbrev pub EndsBy : (alone running serving : List (List ℕ) → ℕ → Type 0) → List (List ℕ) → ℕ → Type 0
EndsBy alone running serving words number = (may_wait words ≡ false → alone words number) × (may_wait words ≡ true → begins_with_serve words ≡ false → running words number) × (may_wait words ≡ true → begins_with_serve words ≡ true → serving words number)
