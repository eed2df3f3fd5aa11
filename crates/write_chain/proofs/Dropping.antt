-- What a message was dropped with.
use Rattle.std.proofs.Common.{◌≡◌, ◌≢◌, ℕ, ◌+◌, ◌<◌, ◌≤◌, cond, eqb, eq-eqb, ne_eqb, [], ◌∷◌, sym, ap, ◌∙◌, subst, arith}
use mathlib.Core.Logic.{dite}
use native.Mathlib.Decide.{ℕ_discrete}
use Rattle.sock_io.specs.LinkHalves.{OutState}
use Rattle.sock_words.specs.declared.plain.Plan.{Plan}
use Rattle.sock_words.specs.ErrorCodes.{EFAILEDSOCKET}
use Rattle.sock_words.specs.PackedWords.{socket_id_version, socket_id_slot}
use Rattle.sock_model.specs.declared.marks.Mark.TheVariants.{Saw, Told}
use Rattle.sock_model.specs.declared.view.View.{View}
use Rattle.sock_model.specs.Marks.{about}
use Rattle.sock_model.specs.MarkWeights.{is_saw, is_told}
use Rattle.sock_model.specs.SlotRows.{marks_of}
use Rattle.sock_open.specs.slot_steps.proofs.RuleNumbers.{pair-same}
use Rattle.sock_rule.specs.MarksComeAndGo.{Became}
use Rattle.sock_rule.proofs.MarksComeAndGo.{stays}
use Rattle.sock_table.specs.ReferenceAnswers.{CodeOf}
use Rattle.write_chain.specs.declared.right.Undelivered.{Undelivered}
use Rattle.write_chain.specs.NotingWhileWriting.{saw, told, nothing, finding, Wrote, WroteDrop}
use Rattle.write_chain.specs.WritingRightInHand.{FoundDead}
use Rattle.write_chain.specs.KeepingOnWriting.{IsCode, IsDropped, LeavesMore}
use Rattle.write_chain.proofs.NotingWhileWriting.{found_it, wrote_more}
use Rattle.write_chain.proofs.Looking.{Fails}
use Rattle.sock_io.specs.declared.link.Out.{Ghosts}
use Rattle.write_chain.specs.declared.keep.Went.{Went}
use Rattle.write_chain.specs.declared.keep.Went.TheVariants as went
use Rattle.sock_words.specs.Totals.{total}

pub code_noted : {O : Type 0} {state : O → OutState} (c id : ℕ) (v w : View) → CodeOf c id v w → Fails state id v w
code_noted c id v w k = dite (ℕ_discrete c 0)
    (λ none_. record { notes = []; noted = nothing; became = subst (λ (y : View). Became (socket_id_slot id) v y [] []) (sym (k.none_yet none_)) (stays (socket_id_slot id) v) })
    (λ some_. record { notes = Saw (socket_id_version id + 1) ∷ Told (socket_id_version id) c ∷ []; noted = finding _ _ (saw (socket_id_version id + 1)) (found_it _ (told c)); became = k.told some_ })

pub told_then : (c id : ℕ) (v w : View) → CodeOf c id v w → c ≢ 0 → 0 < marks_of (is_told (socket_id_version id) c) (socket_id_slot id) w
told_then c id v w k some_ = let x = (k.told some_).here (is_told (socket_id_version id) c) in let y = pair-same (socket_id_version id) c in omega arith

code_fits : (code c : ℕ) → code ≡ cond (eqb c 0) EFAILEDSOCKET c → c < 4096 → (1 ≤ code) × (code ≤ 4095)
code_fits code c is small = dite (ℕ_discrete c 0)
    (λ none_. let e : code ≡ 1009 = is ∙ ap (λ b. cond b EFAILEDSOCKET c) (eq-eqb c 0 none_) in (omega (arith, e), omega (arith, e)))
    (λ some_. let e : code ≡ c = is ∙ ap (λ b. cond b EFAILEDSOCKET c) (ne_eqb c 0 some_) in (omega (arith, e, some_), omega (arith, e, small)))

pub is_code : (code c id : ℕ) (v w x : View) → CodeOf c id v w → code ≡ cond (eqb c 0) EFAILEDSOCKET c → c < 4096 → x.marks ≡ w.marks → IsCode code id v x
is_code code c id v w x k is small same = record {
  word = c;
  code_is = is;
  fits = code_fits code c is small;
  noted = λ some_. subst (λ l. 0 < total (is_told (socket_id_version id) c) (about (socket_id_slot id) l)) (sym same) (told_then c id v w k some_);
  same = λ d some_ there. let e = k.same d there in is ∙ (ap (λ b. cond b EFAILEDSOCKET c) (ne_eqb c 0 (λ z. some_ (sym e ∙ z))) ∙ e);
}

-- of a seat that only wrote since
pub code_before : {O : Type 0} {state : O → OutState} (code id : ℕ) (u v w : View) → Wrote state id u v → IsCode code id v w → IsCode code id u w
code_before code id u v w a k = record { word = k.word; code_is = k.code_is; fits = k.fits; noted = k.noted; same = λ d some_ there. k.same d some_ (let x = wrote_more (is_told (socket_id_version id) d) u v a in omega arith) }

pub still_dead : {O : Type 0} {state : O → OutState} (id : ℕ) (v w : View) → Wrote state id v w → FoundDead id v → FoundDead id w
still_dead id v w a there = let x = wrote_more (is_saw (socket_id_version id + 1)) (v) w a in omega arith

pub dead_dropped : {O : Type 0} {state : O → OutState} (p : Plan) (id : ℕ) (msg : Undelivered) (v w : View) → WroteDrop state p id msg v w → FoundDead id v → FoundDead id w
dead_dropped p id msg v w a there = let x = wrote_more (is_saw (socket_id_version id + 1)) v (record w { stores = v.stores; drops = v.drops }) a.wrote in omega arith

-- where the message was dropped, none is left of it
pub dropped_leaves : {O : Type 0} {g : Ghosts O} (w : Went O g) → IsDropped w → LeavesMore w
dropped_leaves (went.Done s) d = elim d [ ]
dropped_leaves (went.Dropped r msg code) d = tt
dropped_leaves (went.Further r) d = elim d [ ]
