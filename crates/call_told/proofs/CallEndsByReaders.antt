-- How calls end for whoever meets frames, posts the end of a reading, and ends what is left.
use Rattle.std.proofs.Common.{ℕ, List, refl, ap}
use Rattle.sock_words.specs.declared.outcome.Outcome.{Outcome}
use Rattle.corr_core.specs.IdSlotWord.{Parts}
use Rattle.corr_core.specs.declared.marks.Plan.{Plan}
use Rattle.corr_core.specs.declared.marks.View.{View}
use Rattle.sock_message.specs.Asked.{Asked}
use Rattle.call_deeds.specs.Below.RpcClient.Told.{Told}
use Rattle.call_deeds.specs.Below.RpcReader.ReaderBooks.{Books}
use Rattle.call_deeds.specs.Below.RpcReader.PostingAtReadingEnd.{PostedAll, call_at, attempt_at}
use Rattle.call_deeds.specs.Below.RpcReader.CallsLeftAfterReading.{RestEnded}
use Rattle.call_told.specs.TellersOfCallEnds.{IsLossCode, EndedBy, by_code, by_response, ToldFrom}
use Rattle.call_told.proofs.NotesStay.{Later, later_same, later_then, quiet_later, got_later, end_later, post_later, later_in, told_in, has_ended}
use Rattle.call_told.proofs.CallEndsToldStepwise as steps

module _ (p : Plan) (links : ℕ) (gave : ℕ → List ℕ) where
  abbrev Is : View Asked → Told → Type 0
  Is = ToldFrom p.slots links gave

  abbrev pub Step : Books → Books → Type 0
  Step b b' = steps.Step p links gave Later Is b b'

  told_now : (b b' : Books) (slot : ℕ) (w : Parts) (call : Asked) (by : Outcome) → steps.Ends p links gave Later Is b b' slot w call by → EndedBy links gave slot w by → Is b'.view (steps.end_of call by)
  told_now b b' slot w call by e why = record { slot = slot; inside = e.inside; word = w; call = call; lock = has_ended slot w call e.from b.view b'.view e.word e.got e.ended.ended; number = refl; by = why }

  pub laws : steps.Laws p links gave Later Is
  laws = record {
    in_turn = later_then;
    same = λ u v e. later_same u v (ap (λ (x : View Asked). x.notes) e);
    kept = λ u v place own word e. later_same u v (ap (λ (x : View Asked). x.notes) e);
    quiet = quiet_later;
    got = got_later;
    ended = λ slot first n u v e. end_later slot first u v e;
    lasts = λ u v l. told_in p.slots links gave u v (later_in u v l);
    response = λ b b' slot w call by e f given is. told_now b b' slot w call by e (by_response f given is);
  }

  -- with a code: one of those with which calls end then
  module _ (code : ℕ) (loss : IsLossCode code) where
    pub posted_all : (link : ℕ) (os : List ℕ) (b b' : Books) → PostedAll p link code os b b' → Step b b'
    posted_all link = steps.posted_all p links gave Later Is laws code link (λ v word. Unit {0}) (λ operation word v names. tt) (λ u v l word is. tt)
        (λ u v word answer post. post_later p.slots u v (call_at word) code (attempt_at word) answer post) (λ word k u b b' is post e. told_now b b' k.slot _ k.content _ e (by_code code loss refl))

    pub rest_step : (os : List ℕ) (b b' : Books) → RestEnded p code os b b' → Step b b'
    rest_step = steps.rest_step p links gave Later Is laws code (λ b b' slot w call low e. told_now b b' slot w call _ e (by_code code loss refl))
