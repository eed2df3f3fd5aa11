-- How a machine begins.
use Rattle.std.specs.Prelude.{ℕ, ◌≡◌, ◌≢◌, true, false, List, [], map, None, IfSome}
use Rattle.std.specs.List.{AllByRecursion}
use Rattle.brpc_model.specs.Items.{Item}
use Rattle.sock_words.specs.declared.plain.Plan.{Plan}
use Rattle.corr_core.specs.declared.marks.Plan.{Plan as IdPlan}
use Rattle.seat_programs.specs.declared.task.Task.{Task}
use Rattle.seat_programs.specs.ScriptSetupToEnding.{set_up, all_tasks}
use Rattle.seat_programs.specs.Tasks as wants
use Rattle.sock_io.specs.LinkHalves.{OutState, InState, end_of}
use Rattle.machine_model.specs.MachineLinks.{Agrees, AgreesGave, AreAlwaysReady, TellClosing, StayOffered, StayPaced}
use Rattle.machine_model.specs.Machines.{MachineState, core_with}
use Rattle.machine_model.specs.Driving.{FirstRests}

-- what a script wants of a machine: the sizes of its tables, the tasks of each client, and which operations are calls and `open`s
pub record IsWanted (script : List Item) (p : Plan) (q : IdPlan) (clients : List (List Task)) (calls opens : List ℕ) : Type 0 where
  pub plan : p ≡ wants.plan_of script
  pub id_plan : q ≡ wants.id_plan_of script
  pub tasks : clients ≡ all_tasks script
  pub calls_are : calls ≡ wants.calls script
  pub opens_are : opens ≡ wants.opens script

-- the links over which a machine begins: none is finished or was closed by its other end, and none took or gave anything, as far as they tell
pub record AreUnused {E : Type 0} (out_of : E → OutState) (in_of : E → InState) (links : List E) : Type 0 where
  pub fresh : AllByRecursion (λ (e : E). (out_of e).finished ≡ false) links
  pub unused : AllByRecursion (λ (e : E). IfSome (out_of e).took (λ bytes. bytes ≡ [])) links
  pub silent : AllByRecursion (λ (e : E). ((in_of e).gave ≡ 0) × IfSome (in_of e).gave_bytes (λ bytes. bytes ≡ [])) links
  pub unclosed : AllByRecursion (λ (e : E). IfSome (in_of e).closing (λ closing. closing ≡ false)) links

-- a machine over these links, which tells of them what they tell, lacks no memory and isn't ending
pub record TellsLinks {E : Type 0} (out_of : E → OutState) (in_of : E → InState) (links : List E) (m : MachineState) : Type 0 where
  pub enough : (m.short ≡ false) × (m.ending ≡ false)
  pub ends : m.ends ≡ map (λ (e : E). end_of (out_of e) (in_of e)) links
  pub outs : AllByRecursion (λ (e : E). (out_of e).always_ready ≡ true) links → AreAlwaysReady m.links
  pub tell : AllByRecursion (λ (e : E). (in_of e).closing ≢ None) links → TellClosing m.links
  pub offers : StayOffered (map out_of links) (map in_of links) m.links
  pub shapes : StayPaced (map out_of links) m.links

-- the machine stands behind the setup of the script, and its links took and gave nothing
pub record IsMade (script : List Item) (m : MachineState) : Type 0 where
  pub plan : m.plan ≡ wants.plan_of script
  pub id_plan : m.ids.plan ≡ wants.id_plan_of script
  pub opens : m.opens ≡ wants.opens script
  pub calls : m.calls ≡ wants.calls script
  pub agrees : Agrees m.links (λ k. [])
  pub agrees_gave : AgreesGave m.links (λ k. [])
  pub setup : (n : ℕ) × (core_with m (λ k. []) (λ k. []) ≡ set_up script n)
  pub first : FirstRests m
