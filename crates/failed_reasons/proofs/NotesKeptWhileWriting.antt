-- What a seat noted of sockets, and the words that it stored, stay while it writes a link and drops messages.
use Rattle.std.proofs.Common.{ℕ, suc, ap, ◌∙◌, arith}
use lib.ListN.{get_elem?}
use Rattle.sock_io.specs.LinkHalves.{OutState}
use Rattle.sock_words.specs.PackedWords.{socket_id_slot, place_word}
use Rattle.sock_words.specs.declared.plain.Plan.{Plan}
use Rattle.sock_model.specs.declared.view.StoredWord.{StoredWord}
use Rattle.sock_model.specs.declared.view.View.{View}
use Rattle.sock_model.specs.SocketTableLayout.{place_index}
use Rattle.std.specs.Prelude.{true}
use Rattle.attempts_told.specs.Below.SockRule.OnTable.{is_put}
use Rattle.attempts_told.specs.call_whys.specs.call_places.specs.sock_deeds.proofs.GrowingSocketNotes.{Grew, added_grew}
use Rattle.attempts_told.specs.call_whys.specs.call_places.specs.sock_deeds.proofs.WordStoresOfDeeds.{note_is}
use Rattle.attempts_told.specs.Below.WriteChain.Undelivered.{Undelivered}
use Rattle.attempts_told.specs.Below.WriteChain.NotingWhileWriting.{Wrote, WroteDrop}
use Rattle.failed_reasons.specs.ErrorReasons.{StillHas}
use Rattle.sock_words.specs.Totals.{total}

pub still_as : (v w : View) → Grew v w → StillHas v w
still_as v w g = record { marks = g.marks; puts = g.puts; drops = g.dropped }

pub still_then : (u v w : View) → StillHas u v → StillHas v w → StillHas u w
still_then u v w a b = record {
  marks = λ f note i. (let x = a.marks f note i in let y = b.marks f note i in omega (arith, x, y));
  puts = λ x n. (let y = a.puts x n in let z = b.puts x n in omega (arith, y, z));
  drops = λ h d. b.drops h (a.drops h d);
}

module _ {O : Type 0} (state : O → OutState) where
  pub wrote_still : (id : ℕ) (v w : View) → Wrote state id v w → StillHas v w
  wrote_still id v w a = let g = added_grew (socket_id_slot id) v (record w { rights = v.rights }) a.notes a.became in record { marks = g.marks; puts = g.puts; drops = g.dropped }

  pub drop_still : (p : Plan) (id : ℕ) (msg : Undelivered) (v w : View) → WroteDrop state p id msg v w → StillHas v w
  drop_still p id msg v w d =
      let s = wrote_still id v (record w { stores = v.stores; drops = v.drops }) d.wrote in let y : StoredWord = record { place = place_index p msg.label.place; word = place_word true d.link d.position } in
      record {
        marks = s.marks;
        puts = λ x n. (let e = ap (total (total (is_put x n))) d.stores in let m = note_is x n y v.stores in omega (arith, e, m));
        drops = λ h k. (suc k.0, ap (λ l. get_elem? l (suc k.0)) d.drops ∙ k.1);
      }
