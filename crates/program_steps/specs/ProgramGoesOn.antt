-- A program that the rule allows from a view on: each step in turn, whatever it finds.
use Rattle.std.specs.Prelude.{ℕ, ◌≡◌, ◌≢◌, ◌*◌, ◌<◌, ◌≤◌, true, false, List, [], ◌∷◌, length}
use Rattle.sock_words.specs.declared.plain.Plan.{Plan}
use Rattle.seat_programs.specs.sock_io.specs.declared.link.Put.{Put}
use Rattle.seat_programs.specs.sock_io.specs.declared.link.Ready.{Ready}
use Rattle.sock_model.specs.declared.chain.Heading.{Heading}
use Rattle.sock_model.specs.declared.chain.Right.{Right}
use Rattle.sock_model.specs.declared.marks.SlotMark.{SlotMark}
use Rattle.sock_model.specs.declared.view.View.{View}
use Rattle.sock_model.specs.declared.view.Hand.{Hand}
use Rattle.sock_model.specs.MarkWeights.{is_ref, is_zero, is_any_coding, is_claimed, is_recycled}
use Rattle.sock_model.specs.SlotRows.{marks_of}
use Rattle.seat_programs.specs.Programs.{Program, Do, Say, Sent, Rest, TakeMessage, TakeHome, PutHome, PutBytes, AskReady, Write, Aside, Round, Keep, Retries, LAST_VERSION}
use Rattle.seat_programs.specs.Ticks.{FitsPut}
use Rattle.seat_programs.specs.StepTables.{row}
use Rattle.seat_programs.specs.StepsOfNames.{found_id}
use Rattle.seat_programs.specs.StepsOfMessages.{took_message}
use Rattle.seat_programs.specs.StepsOfLinks.{link_away, link_home_again, took_bytes}
use Rattle.program_steps.specs.Writes.{MayTakeMessage, Writes, MayPut, At, AreNotes, behind}
use Rattle.seat_programs.specs.StepTables.{May, Finds}
use Rattle.seat_programs.specs.StepsOfNames.{FindsId}
use Rattle.sock_model.specs.declared.chain.Entry.{Entry}
use Rattle.seat_programs.specs.ClientProgram.{HeldLife}
use Rattle.program_steps.specs.WhatSeatHas.{IsQuiet, Has}
use Rattle.program_steps.specs.IdWordFits.{FitsFound, FitsHead, FitsExit, FitsRetry}
use Rattle.seat_programs.specs.Asides.{Found}
use Rattle.seat_programs.specs.LoopHeads.{Head, Exit, Opens, Posts, Unlocks, Decides}

-- a seat that has nothing to give back: no reference, no exchange left, no code to store, no slot claimed, none recycled
-- but those whose versions are used up, no link in hand, and nothing on the chains
pub record HasNothing (v : View) : Type 0 where
  pub refs : (i : ℕ) → marks_of is_ref i v ≡ 0
  pub zeros : (i w : ℕ) → marks_of (is_zero w) i v ≡ 0
  pub codes : (i : ℕ) → marks_of is_any_coding i v ≡ 0
  pub claims : (i : ℕ) → marks_of is_claimed i v ≡ 0
  pub retired : (i w : ℕ) → 0 < marks_of (is_recycled w) i v → LAST_VERSION < w
  pub hands : v.hands ≡ []
  pub quiet : IsQuiet v

-- whoever may wait at this head has none of its entries loose
abbrev pub IsConnected : Head → View → Type 0
IsConnected (Posts id e w) v = Unit {0}
IsConnected (Unlocks i w advance) v = Unit {0}
IsConnected (Decides id asked w e) v = Unit {0}
IsConnected other v = v.loose ≡ []

-- the view allows the program
abbrev pub GoesOn : Plan → View → Program → Type 0
GoesOn p v (Do call next) = May p v call × ((found : ℕ) (hand : Hand) → Finds p v call found hand → GoesOn p (row p call found hand v) (next found))
GoesOn p v (Say o outcome next) = GoesOn p v next
GoesOn p v (Sent o next) = GoesOn p v next
GoesOn p v Rest = HasNothing v
GoesOn p v (TakeMessage q next) = MayTakeMessage v q × ((heading : Heading) (bytes : List ℕ) → heading.label.place < 8 * p.operations → bytes ≢ [] → GoesOn p (took_message heading bytes v) (next heading bytes))
GoesOn p v (TakeHome k next) = (r : Right) × Writes v k true r × (r.put ≡ 0) × GoesOn p (link_away v) (next r.places)
GoesOn p v (PutHome k n after) = (r : Right) × Writes v k false r × (r.places ≡ n) × (r.put ≡ 0) × (r.taken ≡ false) × GoesOn p (link_home_again v) after
GoesOn p v (PutBytes k asked bytes next) = MayPut v k bytes × ((answer : Put) → FitsPut asked bytes answer → GoesOn p (took_bytes answer v) (next answer))
GoesOn p v (AskReady k next) = ((r : Right) × Writes v k false r) × ((answer : Ready) → GoesOn p v (next answer))
GoesOn p v (Write w after) = At p v w × ((notes : List SlotMark) → AreNotes notes → GoesOn p (behind notes v) after)
GoesOn p v (Aside step next) = (found : Found step) → FitsFound p step found → GoesOn p v (next found)
GoesOn p v (Round (Opens o) next) = ((o < p.operations) × (v.loose ≡ [])) × ((word : ℕ) → word ≢ 0 → FindsId p word → GoesOn p (found_id word v) (next word))
GoesOn p v (Round head next) = (FitsHead p head × IsConnected head v) × ((exit : Exit head) → FitsExit head exit → GoesOn p v (next exit))
GoesOn p v (Keep r next) = FitsRetry r × GoesOn p v next
GoesOn p v (Retries requests after) = (requests ≡ p.requests) × ((made : List Entry) × (held : List HeldLife) × (passes : List ℕ) × Has (made ∷ []) 0 [] held passes [] v × (length held ≤ 4096)
    × ((longer : List Entry) (u : View) → Has (longer ∷ []) 0 [] held passes [] u → GoesOn p u after))
