-- An id of a life that has ended reaches no later life of its slot, and the views that a table begins with have no life.
use Rattle.std.proofs.Common.{◌≡◌, ◌≢◌, ℕ, zero, suc, ◌+◌, ◌-◌, ◌<◌, false, [], ◌∷◌, get_or, refl, ap, arith, cond, eqb, ne_eqb}
use Rattle.atomic_table.specs.Table.{State}
use Rattle.sock_words.specs.declared.plain.Plan.{Plan}
use Rattle.sock_words.specs.PackedWords.{socket_id_version, socket_id_slot, vref_version}
use Rattle.sock_model.specs.declared.home.Home.{Home}
use Rattle.sock_model.specs.declared.view.View.{View}
use Rattle.sock_model.specs.declared.view.Hand.{Hand}
use Rattle.sock_model.specs.MarkWeights.{is_probe}
use Rattle.sock_model.specs.References.{slot_facts}
use Rattle.sock_model.specs.SlotRows.{marks_of, added}
use Rattle.sock_model.specs.LawfulSockets.{Lawful}
use Rattle.sock_model.specs.ViewsOfSplitSeats.{first_view}
use Rattle.sock_model.specs.PlainReferences.{no_lives, Nothing, Hold, plain}
use Rattle.slot_steps.proofs.After.{marks-added}
use Rattle.slot_steps.proofs.RuleNumbers.{life_is}
use Rattle.seat_programs.specs.TableSteps.{OnSlot, AddRef}
use Rattle.seat_programs.specs.StepTables.{word_of}
use Rattle.seat_programs.specs.Cores.{found_at}
use Rattle.seat_programs.specs.StepTables.{row}
use Rattle.life_events.specs.LifeEventOfStep.{life_of, event_of}
use Rattle.life_events.proofs.LifeLaws.{ends_are}

module _ {S : Type 0} (shows : S → Home) (p : Plan) (s : State S View) (o : Lawful shows p s) (id : ℕ) (inside : socket_id_slot id < p.slots) (over : 0 < (plain s.views).ends (life_of id)) where
  abbrev found : ℕ
  found = found_at s.words (word_of p (OnSlot (AddRef id)))

  -- the slot has gone on to another version
  pub stale_version : vref_version found ≢ socket_id_version id
  stale_version same = let i : ℕ = socket_id_slot id in let h : ℕ = socket_id_version id in
      let t = life_is p.first h ((slot_facts s i).version - 1) (omega (arith, ends_are p s o.references i inside h)) in let t₁ = t.1 in omega arith

  stale_test : eqb (vref_version found) (socket_id_version id) ≡ false
  stale_test = ne_eqb (vref_version found) (socket_id_version id) stale_version

  -- so whoever adds a reference for the id gets none to a life, of any version
  pub stale_nothing : (seat : ℕ) (v : View) → event_of seat (OnSlot (AddRef id)) found v ≡ Nothing
  stale_nothing seat v = ap (λ b. cond b (Hold (life_of id) seat) Nothing) stale_test

  -- and has one more 1 to take back
  pub stale_probe : (v : View) (hand : Hand) → marks_of is_probe (socket_id_slot id) (row p (OnSlot (AddRef id)) found hand v) ≡ marks_of is_probe (socket_id_slot id) v + 1
  stale_probe v hand = let i : ℕ = socket_id_slot id in let w : ℕ = vref_version found in let a = ap (λ b. marks_of is_probe i (added i found b v)) stale_test in omega (arith, marks-added is_probe i found false v)

-- the views of a new table have no life
pub begins : (p : Plan) → plain (first_view p ∷ []) ≡ no_lives
begins p = λ i. record { births = λ l. 0; fails = λ l. 0; ends = λ l. 0; holds = λ seat l. only_zero seat i }
  where
    only_zero : (seat : ℕ) → ◌≡◌ {A = ℕ} (get_or {A = ℕ} (0 ∷ []) seat 0) 0
    only_zero zero = refl
    only_zero (suc seat) = refl
