-- The steps of the machine as the steps of the programs.
use Rattle.std.specs.Prelude.{ℕ, Bool, List, Option, Some, None}
use Rattle.sock_words.specs.declared.kind.Kind.{Kind}
use Rattle.sock_words.specs.declared.kind.Kind.TheVariants.{L1, L2, M2, W1, W2}
use Rattle.sock_words.specs.PackedWords.{socket_id_version, socket_id_slot}
use Rattle.seat_programs.specs.BufferParts.{part}
use Rattle.seat_programs.specs.Asides as asides
use Rattle.seat_programs.specs.LoopRounds.{round}
use Rattle.call_points.specs.AsideCodeSteps as aside_steps
use Rattle.seat_programs.specs.TableSteps as calls
use Rattle.seat_programs.specs.StepTables.{kind_of}
use Rattle.seat_programs.specs.Programs.{Program, Do, TakeMessage, TakeHome, PutHome, PutBytes, AskReady, Write, Aside, Round}
use Rattle.seat_programs.specs.SendAndWritePrograms.{block}
use Rattle.seat_states.specs.declared.slot_step.SlotStep.{SlotStep}
use Rattle.seat_states.specs.declared.slot_step.SlotStep.TheVariants as slots
use Rattle.seat_states.specs.declared.name_step.NameStep.{NameStep}
use Rattle.seat_states.specs.declared.name_step.NameStep.TheVariants as names
use Rattle.seat_states.specs.declared.chain_step.ChainStep.{ChainStep}
use Rattle.seat_states.specs.declared.chain_step.ChainStep.TheVariants as chains
use Rattle.seat_states.specs.declared.place_step.PlaceStep.{PlaceStep}
use Rattle.seat_states.specs.declared.place_step.PlaceStep.TheVariants as places
use Rattle.seat_states.specs.declared.link_step.LinkStep.{LinkStep}
use Rattle.seat_states.specs.declared.link_step.LinkStep.TheVariants as links
use Rattle.seat_states.specs.declared.table_step.TableStep.{TableStep}
use Rattle.seat_states.specs.declared.table_step.TableStep.TheVariants as steps
use Rattle.seat_states.specs.declared.point.Step.{Step}
use Rattle.seat_states.specs.declared.point.Step.TheVariants as firsts
use Rattle.seat_states.specs.ProgramAtPoint.{Context, heading_by, parts_by}

-- ## The step that a step of the machine is

abbrev pub slot_step_of : SlotStep → calls.SlotStep
slot_step_of (slots.ClaimSlot i) = calls.ClaimSlot i
slot_step_of (slots.CreateLife i k) = calls.CreateLife i k
slot_step_of (slots.AddRef id) = calls.AddRef id.0
slot_step_of (slots.SubRef i) = calls.SubRef i
slot_step_of (slots.SetOdd i) = calls.SetOdd i
slot_step_of (slots.Recycle i from) = calls.Recycle i from.0
slot_step_of (slots.FreeSlot i) = calls.FreeSlot i
slot_step_of (slots.LookWord id) = calls.LookWord id.0
slot_step_of (slots.StoreLink i k) = calls.StoreLink i k
slot_step_of (slots.LoadLink i w) = calls.LoadLink i w
slot_step_of (slots.FindLink id) = calls.FindLink (socket_id_slot id.0) (socket_id_version id.0)
slot_step_of (slots.ResetHead i k) = calls.ResetHead i k
slot_step_of (slots.ClearCode i k) = calls.ClearCode i k
slot_step_of (slots.StoreCode i h c) = calls.StoreCode i h c
slot_step_of (slots.LoadCode id) = calls.LoadCode (socket_id_slot id.0) (socket_id_version id.0)

abbrev pub name_step_of : NameStep → calls.NameStep
name_step_of (names.StoreName n w) = calls.StoreName n w
name_step_of (names.LoadName n) = calls.LoadName n
name_step_of (names.StoreOpen o w) = calls.StoreOpen o w
name_step_of (names.LoadOpen o) = calls.LoadOpen o

abbrev pub chain_step_of : ChainStep → calls.ChainStep
chain_step_of (chains.ClaimRequest id q) = calls.ClaimRequest id.0 q
chain_step_of (chains.SwapHead i own) = calls.SwapHead i own.0
chain_step_of (chains.Connect q before) = calls.Connect q before.0
chain_step_of (chains.EmptyHead i last) = calls.EmptyHead i last.0
chain_step_of (chains.ReadNext q) = calls.ReadNext q
chain_step_of (chains.ReverseNext q value) = calls.ReverseNext q value.0
chain_step_of (chains.Unconnect q) = calls.Unconnect q
chain_step_of (chains.FreeRequest q g) = calls.FreeRequest q g

abbrev pub place_step_of : PlaceStep → calls.PlaceStep
place_step_of (places.StorePlace l k n) = calls.StorePlace l k n
place_step_of (places.DropPlace l k n) = calls.DropPlace l k n

abbrev pub link_step_of : LinkStep → calls.LinkStep
link_step_of (links.TakeLink k) = calls.TakeLink k
link_step_of (links.PutLink k) = calls.PutLink k
link_step_of (links.FinishLink k) = calls.FinishLink k

abbrev pub step_of : TableStep → calls.TableStep
step_of (steps.Slot step) = calls.OnSlot (slot_step_of step)
step_of (steps.Name step) = calls.OnName (name_step_of step)
step_of (steps.Chain step) = calls.OnChain (chain_step_of step)
step_of (steps.Place step) = calls.OnPlace (place_step_of step)
step_of (steps.Link step) = calls.OnLink (link_step_of step)

-- ## The first step of a program

-- the first step of a program: one on a word, one aside of the sockets, or one of whoever writes a link
pub data First : Type 0 where
  OfTable : calls.TableStep → First
  OfAside : asides.Step → First
  OfMessage : ℕ → First
  OfLink : ℕ → First
  OfHome : ℕ → ℕ → First
  OfPut : ℕ → Bool → List ℕ → First
  OfReady : ℕ → First

abbrev pub first_of : Program → Option First
first_of (Do call next) = Some (OfTable call)
first_of (Aside step next) = Some (OfAside step)
first_of (TakeMessage q next) = Some (OfMessage q)
first_of (TakeHome k next) = Some (OfLink k)
first_of (PutHome k n after) = Some (OfHome k n)
first_of (PutBytes k asked bytes next) = Some (OfPut k asked bytes)
first_of (AskReady k next) = Some (OfReady k)
first_of other = None

-- at the head of a loop it is that of the next round
abbrev pub first_in : Program → Option First
first_in (Write w after) = first_of (block w after)
first_in (Round head next) = first_of (round head next)
first_in other = first_of other

-- a step of the machine as that
abbrev pub step_as : Context → Step → First
step_as a (firsts.Table call) = OfTable (step_of call)
step_as a (firsts.Aside step) = OfAside (aside_steps.step_of a.asked step)
step_as a (firsts.PutMessage q author) = OfTable (calls.OnMessage (calls.PutMessage q (heading_by author a.parts) a.message))
step_as a (firsts.TakeMessage q) = OfMessage q
step_as a (firsts.TakeHome k) = OfLink k
step_as a (firsts.PutHome k n) = OfHome k n
step_as a (firsts.PutBytes k asked author) = OfPut k asked (part (parts_by author a.left_parts) a.left a.taken)
step_as a (firsts.AskReady k) = OfReady k

-- its kind
abbrev pub kind_of_first : First → Kind
kind_of_first (OfTable call) = kind_of call
kind_of_first (OfAside step) = asides.kind_aside step
kind_of_first (OfMessage q) = M2
kind_of_first (OfLink k) = L1
kind_of_first (OfHome k n) = L2
kind_of_first (OfPut k asked bytes) = W1
kind_of_first (OfReady k) = W2
