-- What a seat notes while it writes: such notes leave all that it holds.
use Rattle.std.proofs.Common.{◌≡◌, ℕ, ◌+◌, ◌≤◌, true, List, [], ◌∷◌, ◌++◌, refl, sym, ap, ◌∙◌, subst, arith}
use Rattle.sock_io.specs.LinkHalves.{OutState}
use Rattle.sock_words.specs.declared.plain.Plan.{Plan}
use Rattle.sock_words.specs.PackedWords.{socket_id_version, socket_id_slot, place_word}
use Rattle.sock_model.specs.declared.chain.Right.{Right}
use Rattle.sock_model.specs.declared.marks.Mark.{Mark}
use Rattle.sock_model.specs.declared.chain.Heading.{Heading}
use Rattle.sock_model.specs.declared.view.View.{View}
use Rattle.write_chain.specs.declared.right.Undelivered.{Undelivered}
use Rattle.sock_model.specs.MarkWeights.{is_ref, is_met}
use Rattle.sock_model.specs.declared.view.StoredWord.{StoredWord}
use Rattle.sock_model.specs.ChainRows.{with_right}
use Rattle.sock_model.specs.SocketTableLayout.{place_index}
use Rattle.sock_model.specs.Marks.{noted}
use Rattle.sock_model.specs.SlotRows.{marks_of}
use Rattle.sock_rule.specs.NotesBesideRows.{dropped_at}
use Rattle.sock_rule.specs.MarksComeAndGo.{Became}
use Rattle.sock_rule.proofs.MarksComeAndGo.{then_, stays}
use Rattle.sock_table.proofs.QuietBetweenCalls.{IsQuiet}
use Rattle.write_chain.specs.NotingWhileWriting.{IsFinding, saw, met, told, faulted, Noted, nothing, finding, failing, Met_by, Wrote, WroteDrop}
use Rattle.sock_words.specs.Totals.{total}

finding_quiet : {h : ℕ} (m : Mark) → IsFinding h m → IsQuiet (m ∷ []) × (is_ref m ≡ 0)
finding_quiet _ (saw w) = (record { claimed = refl; probe = refl; coding = refl; zeros = λ x. refl }, refl)
finding_quiet _ (met l) = (record { claimed = refl; probe = refl; coding = refl; zeros = λ x. refl }, refl)
finding_quiet _ (told c) = (record { claimed = refl; probe = refl; coding = refl; zeros = λ x. refl }, refl)
finding_quiet _ (faulted k) = (record { claimed = refl; probe = refl; coding = refl; zeros = λ x. refl }, refl)

module _ {O : Type 0} {state : O → OutState} {h : ℕ} where
  pub noted_as : {K L : ℕ → Type 0} (l : List Mark) → ((k : ℕ) → K k → L k) → Noted state K h l → Noted state L h l
  noted_as [] to nothing = nothing
  noted_as _ to (finding m ms is rest) = finding m ms is (noted_as ms to rest)
  noted_as _ to (failing k ms its why rest) = failing k ms (to k its) why (noted_as ms to rest)

module _ {O : Type 0} {state : O → OutState} {L : ℕ → Type 0} {h : ℕ} where
  pub noted_then : (a b : List Mark) → Noted state L h a → Noted state L h b → Noted state L h (a ++ b)
  noted_then [] b nothing q = q
  noted_then _ b (finding m ms is rest) q = finding m (ms ++ b) is (noted_then ms b rest q)
  noted_then _ b (failing k ms its why rest) q = failing k (ms ++ b) its why (noted_then ms b rest q)

  pub noted_quiet : (l : List Mark) → Noted state L h l → IsQuiet l × (total is_ref l ≡ 0)
  noted_quiet [] nothing = (record { claimed = refl; probe = refl; coding = refl; zeros = λ x. refl }, refl)
  noted_quiet _ (finding m ms is rest) = let a = finding_quiet m is in let b = noted_quiet ms rest in (
    record { claimed = omega (arith, a.0.claimed, b.0.claimed); probe = omega (arith, a.0.probe, b.0.probe); coding = omega (arith, a.0.coding, b.0.coding); zeros = λ x. omega (arith, a.0.zeros x, b.0.zeros x) },
    omega (arith, a.1, b.1),
  )
  noted_quiet _ (failing k ms its why rest) = let b = noted_quiet ms rest in (
    record { claimed = omega (arith, b.0.claimed); probe = omega (arith, b.0.probe); coding = omega (arith, b.0.coding); zeros = λ x. omega (arith, b.0.zeros x) },
    omega (arith, b.1),
  )

  pub found_it : (m : Mark) → IsFinding h m → Noted state L h (m ∷ [])
  found_it m is = finding m [] is nothing

module _ {O : Type 0} {state : O → OutState} {id : ℕ} where
  -- notes alone
  pub wrote_notes : (v w : View) (notes : List Mark) → Noted state (Met_by id w) (socket_id_version id) notes → Became (socket_id_slot id) v w notes [] → Wrote state id v w
  wrote_notes v w notes noted b = record { notes = notes; noted = noted; became = subst (λ (y : View). Became (socket_id_slot id) v y notes []) (b.others ∙ sym (ap (λ (y : View). record y { rights = v.rights }) b.others)) b }

  -- rights alone
  pub wrote_rights : (v w : View) → w ≡ record v { rights = w.rights } → Wrote state id v w
  wrote_rights v w e = record { notes = []; noted = nothing; became = subst (λ (y : View). Became (socket_id_slot id) v y [] []) (sym (ap (λ (y : View). record y { rights = v.rights }) e)) (stays (socket_id_slot id) v) }

  pub wrote_then : (u v w : View) → Wrote state id u v → Wrote state id v w → Wrote state id u w
  wrote_then u v w a b = let i : ℕ = socket_id_slot id in let second : Became (socket_id_slot id) (record v { rights = u.rights }) (record w { rights = u.rights }) b.notes [] = record {
    here = λ f. b.became.here f;
    elsewhere = λ j ne. b.became.elsewhere j ne;
    others = ap (λ (y : View). record y { rights = u.rights }) b.became.others;
  } in record {
    notes = a.notes ++ b.notes;
    noted = noted_then a.notes b.notes (noted_as a.notes (λ k met_. (let x : marks_of (is_met (socket_id_version id) k) (socket_id_slot id) w + 0 ≡ marks_of (is_met (socket_id_version id) k) (socket_id_slot id) v + total (is_met (socket_id_version id) k) b.notes = b.became.here (is_met (socket_id_version id) k) in omega arith)) a.noted) b.noted;
    became = then_ i a.became second;
  }

  -- what the seat holds it holds still
  pub wrote_more : (f : Mark → ℕ) (v w : View) → Wrote state id v w → marks_of f (socket_id_slot id) v ≤ marks_of f (socket_id_slot id) w
  wrote_more f v w a = let x : marks_of f (socket_id_slot id) w + 0 ≡ marks_of f (socket_id_slot id) v + total f a.notes = a.became.here f in omega arith

  -- what it stored is noted as it was
  pub wrote_stores : (v w : View) → Wrote state id v w → w.stores ≡ v.stores
  wrote_stores v w a = ap (λ (y : View). y.stores) a.became.others

  -- a seat that only wrote, and then dropped a message
  pub drop_then : (p : Plan) (msg : Undelivered) (u v w : View) → Wrote state id u v → WroteDrop state p id msg v w → WroteDrop state p id msg u w
  drop_then p msg u v w a b = let same = wrote_stores u v a in let kept : v.drops ≡ u.drops = ap (λ (y : View). y.drops) a.became.others in record {
    link = b.link;
    position = b.position;
    low = b.low;
    met = b.met;
    stores = b.stores ∙ ap (noted record { place = place_index p msg.label.place; word = place_word true b.link b.position }) same;
    heading = b.heading;
    drops = b.drops ∙ ap (λ (l : List Heading). b.heading ∷ l) kept;
    label_is = b.label_is;
    owner_is = b.owner_is;
    right = b.right;
    one = b.one;
    heading_is = b.heading_is;
    before = b.before;
    begun = b.begun;
    sent = b.sent;
    bytes = b.bytes;
    wrote = subst (λ (l : List (List StoredWord)). Wrote state id u (record w { stores = l; drops = u.drops })) same (subst (λ (d : List Heading). Wrote state id u (record w { stores = v.stores; drops = d })) kept (wrote_then u v (record w { stores = v.stores; drops = v.drops }) a b.wrote));
  }

-- ## Rights alone

pub rights_only : (v w : View) (rs : List Right) → w ≡ record v { rights = rs } → w ≡ record v { rights = w.rights }
rights_only v w rs e = e ∙ sym (ap (λ (y : View). record v { rights = y.rights }) e)

pub rights_then : (u v w : View) → v ≡ record u { rights = v.rights } → w ≡ record v { rights = w.rights } → w ≡ record u { rights = w.rights }
rights_then u v w first second = second ∙ ap (λ (y : View). record y { rights = w.rights }) first

-- and a drop
pub rights_but_store : (u v w : View) (x word : ℕ) (h : Heading) (r : Right) → v ≡ dropped_at x word h (with_right u r) → w ≡ record v { rights = w.rights }
    → (record w { stores = u.stores; drops = u.drops } ≡ record u { rights = w.rights }) × (w.stores ≡ noted record { place = x; word = word } u.stores) × (w.drops ≡ h ∷ u.drops)
rights_but_store u v w x word h r first second = (
  ap (λ (y : View). record y { stores = u.stores; drops = u.drops }) second ∙ ap (λ (y : View). record y { rights = w.rights; stores = u.stores; drops = u.drops }) first,
  ap (λ (y : View). y.stores) second ∙ ap (λ (y : View). y.stores) first,
  ap (λ (y : View). y.drops) second ∙ ap (λ (y : View). y.drops) first,
)
