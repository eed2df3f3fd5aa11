-- The ids that outcomes of a run show whose links were read beside its clients are those of a table of so few ids.
use Rattle.std.proofs.Common.{◌≡◌, ℕ, ◌<◌, ◌≤◌, if◌then◌else◌, List, length, slice_get, Option, Some, None, Ok, subst, arith}
use Rattle.std.specs.Prelude.{slice_index}
use mathlib.Core.Logic.{dite}
use native.Mathlib.Decide.{dec_lt}
use Rattle.sock_io.specs.declared.link.Out.{Ghosts}
use Rattle.sock_io.specs.LinkHalves.{OutState, InState}
use Rattle.sock_words.specs.declared.outcome.Outcome.{Outcome}
use Rattle.brpc_model.specs.Items.{Item, is_call}
use Rattle.brpc_model.specs.ReturnedLink.{LinkEnd}
use Rattle.brpc_model.specs.MessageOfLabel.{shown_id}
use Rattle.brpc_model.specs.Operations.{operations}
use Rattle.brpc_model.specs.Script.{script_of}
use Rattle.corr_core.specs.IdSlotWord.{parts}
use Rattle.seat_programs.specs.Tasks.{Numbered, calls, numbered}
use Rattle.script_parts.specs.script_facts.proofs.FilteredLists.{filter_map_short}
use Rattle.script_parts.specs.script_facts.proofs.OperationNumbering.{numbered_length}
use Rattle.script_parts.specs.script_facts.proofs.ScriptSizes.{keeps_limits}
use Rattle.script_parts.specs.call_whys.proofs.CallVersionsDistinct.{IsIdFor, shown_end}
use Rattle.script_threads.specs.ServedScriptTold.{seated_ids, IsThreadsRun}
use Rattle.script_threads.proofs.Speaking.{parts_of}
use Rattle.script_threads.proofs.AttemptsOnThreads.{are_ids}
use Rattle.script_threads.proofs.ReportsOfThreads.{text_of, text_outcomes}

module _ (P : Type 0) {O I : Type 0} (g : Ghosts O) (out : O → OutState) (inn : I → InState) (bytes : List ℕ) (script : List Item) (reads : script_of bytes ≡ Ok script) (text : List ℕ) (links : List LinkEnd) (r : IsThreadsRun P g out inn script text links) where
  open parts_of r use {last}

  -- each call has a slot of ids, and there are at most 4,096
  few_slots : length (calls script) ≤ 4096
  few_slots =
      let limits = keeps_limits bytes script reads in
      omega (arith, limits.operations, filter_map_short (λ (n : Numbered). if is_call n.op.item then Some n.number else None) (numbered script), numbered_length 0 0 (operations script))

  -- an id that was made and has ended has a first version below that of its slot's word
  small_id : (o id : ℕ) → IsIdFor (seated_ids script) last.notes last.kept r.rest.words r.rest.closing o id → id < 281474976710656
  small_id o id a =
      let word = r.rest.low a.slot in
      let some_ = a.ended in
      let inside = a.inside in
      let is = a.id_is in
      dite (dec_lt a.first (parts (slice_index r.rest.words a.slot)).first)
      (λ lt. omega (arith, few_slots, word, inside, is, lt))
      (λ ge. absurd (let none_ = r.rest.closing.ended_not a.slot a.first a.inside (omega (arith, ge)) in omega (arith, some_, none_)))

  small_ids : (i id : ℕ) (outcome : Outcome) → slice_get (parts_of r).outcomes i ≡ Some (Some outcome) → shown_id outcome ≡ Some id → id < 281474976710656
  small_ids i id outcome became shows = small_id i id ((are_ids P g out inn bytes script reads text links r).ends i outcome became id (shown_end outcome id shows))

  -- so is each id that an outcome shows of those whose report the text is
  pub text_small : (i id : ℕ) (outcome : Outcome) → slice_get (text_of P out inn g script text links r bytes reads).outcomes i ≡ Some (Some outcome) → shown_id outcome ≡ Some id → id < 281474976710656
  text_small i id outcome became shows = small_ids i id outcome (subst (λ (os : List (Option Outcome)). slice_get os i ≡ Some (Some outcome)) (text_outcomes P out inn g script text links r bytes reads) became) shows
