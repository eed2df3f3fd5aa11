-- A seat that writes until the head is empty.
use Rattle.std.proofs.Common.{◌≡◌, ℕ, ◌+◌, List, [], ◌∷◌, ◌++◌, append_assoc, refl, sym, ap, ◌∙◌, subst, arith}
use Rattle.std.proofs.lemmas.List.Elements.{All-nil, All-cons, All-append, All-weaker}
use Rattle.sock_io.specs.LinkHalves.{OutState}
use Rattle.sock_words.specs.declared.plain.Plan.{Plan}
use Rattle.sock_words.specs.PackedWords.{socket_id_version, socket_id_slot}
use Rattle.sock_model.specs.declared.chain.Heading.{Heading}
use Rattle.sock_model.specs.declared.view.View.{View}
use Rattle.sock_model.specs.declared.view.StoredWord.{StoredWord}
use Rattle.sock_model.specs.MarkWeights.{is_met}
use Rattle.sock_model.specs.Marks as marks
use Rattle.sock_model.specs.SlotRows.{marks_of}
use Rattle.sock_rule.specs.MarksComeAndGo.{Became}
use Rattle.sock_rule.proofs.MarksComeAndGo.{then_}
use Rattle.write_chain.specs.declared.right.Undelivered.{Undelivered}
use Rattle.write_chain.specs.NotingWhileWriting.{Met_by, Wrote, WroteDrop}
use Rattle.write_chain.proofs.NotingWhileWriting.{noted_as, noted_then, noted_quiet, wrote_rights, wrote_stores}
use Rattle.rpc_client.specs.SeatBetweenOperations.{SameRefs}
use Rattle.rpc_client.specs.SendingOutcomes.{with_notes, IsDrop, WroteAll}
use Rattle.rpc_client.proofs.CountedReferences.{same_refs}

with_notes-append : (a b : List StoredWord) (all : List (List StoredWord)) → with_notes (a ++ b) all ≡ with_notes a (with_notes b all)
with_notes-append [] b all = refl
with_notes-append (n ∷ ns) b all = ap (marks.noted n) (with_notes-append ns b all)

module _ {O : Type 0} {state : O → OutState} (p : Plan) (id : ℕ) where
  -- a seat that only wrote
  pub all_wrote : (v w : View) → Wrote state id v w → WroteAll state p id v w
  all_wrote v w a = record {
    drops = [];
    are_drops = All-nil (IsDrop p id w);
    stores = wrote_stores v w a;
    notes = a.notes;
    noted = a.noted;
    headings = [];
    headings_are = ap (λ (y : View). y.drops) a.became.others;
    became = subst (λ (d : List Heading). Became (socket_id_slot id) v (record w { rights = v.rights; stores = v.stores; drops = d }) a.notes []) (ap (λ (y : View). y.drops) a.became.others)
        (subst (λ (l : List (List StoredWord)). Became (socket_id_slot id) v (record w { rights = v.rights; stores = l }) a.notes []) (wrote_stores v w a) a.became);
  }

  -- or dropped a message
  pub all_dropped : (msg : Undelivered) (v w : View) → WroteDrop state p id msg v w → WroteAll state p id v w
  all_dropped msg v w a = record {
    drops = record { place = Rattle.sock_model.specs.SocketTableLayout.place_index p msg.label.place; word = Rattle.sock_words.specs.PackedWords.place_word Rattle.std.specs.Prelude.true a.link a.position } ∷ [];
    are_drops = All-cons (IsDrop p id w) _ [] record { place = msg.label.place; link = a.link; position = a.position; word_is = refl; met = a.met } (All-nil (IsDrop p id w));
    stores = a.stores;
    headings = a.heading ∷ [];
    headings_are = a.drops;
    notes = a.wrote.notes;
    noted = a.wrote.noted;
    became = a.wrote.became;
  }

  pub all_none : (v : View) → WroteAll state p id v v
  all_none v = all_wrote v v (wrote_rights v v refl)

  -- the link that was found is found still
  met_still : (v w : View) → WroteAll state p id v w → (k : ℕ) → Met_by id v k → Met_by id w k
  met_still v w a k met = let x : marks_of (is_met (socket_id_version id) k) (socket_id_slot id) w + 0 ≡ marks_of (is_met (socket_id_version id) k) (socket_id_slot id) v + _ = a.became.here (is_met (socket_id_version id) k) in omega arith

  pub all_then : (u v w : View) → WroteAll state p id u v → WroteAll state p id v w → WroteAll state p id u w
  all_then u v w a b = record {
    drops = b.drops ++ a.drops;
    are_drops = All-append (IsDrop p id w) b.drops a.drops b.are_drops (All-weaker (IsDrop p id v) (IsDrop p id w) (λ n d. record { place = d.place; link = d.link; position = d.position; word_is = d.word_is; met = met_still v w b d.link d.met }) a.drops a.are_drops);
    stores = b.stores ∙ (ap (with_notes b.drops) a.stores ∙ sym (with_notes-append b.drops a.drops u.stores));
    headings = b.headings ++ a.headings;
    headings_are = b.headings_are ∙ (ap (λ (l : List Heading). b.headings ++ l) a.headings_are ∙ sym (append_assoc b.headings a.headings u.drops));
    notes = a.notes ++ b.notes;
    noted = noted_then a.notes b.notes (noted_as a.notes (λ k met. met_still v w b k met) a.noted) b.noted;
    became = then_ (socket_id_slot id) a.became second;
  }
    where
      second : Became (socket_id_slot id) (record v { rights = u.rights; stores = u.stores; drops = u.drops }) (record w { rights = u.rights; stores = u.stores; drops = u.drops }) b.notes []
      second = record { here = λ f. b.became.here f; elsewhere = λ j ne. b.became.elsewhere j ne; others = ap (λ (y : View). record y { rights = u.rights; stores = u.stores; drops = u.drops }) b.became.others }

  pub all_refs : (v w : View) → WroteAll state p id v w → SameRefs v w
  all_refs v w a = let r = same_refs (socket_id_slot id) v (record w { rights = v.rights; stores = v.stores; drops = v.drops }) a.notes [] a.became (noted_quiet a.notes a.noted).1 refl in record { refs = λ i. r.refs i; lives = λ i h. r.lives i h }
