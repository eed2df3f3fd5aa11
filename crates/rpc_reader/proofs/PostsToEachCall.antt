-- Posts to one call behind another.
use Rattle.std.proofs.Common.{◌≡◌, ℕ, ◌+◌, ◌<◌, ◌⊎◌, inl, inr, List, [], ◌∷◌, ◌++◌, length, take, get_or, Some, refl, sym, ◌∙◌, subst}
use Rattle.std.specs.Prelude.{◌≤◌, Option, position}
use Rattle.std.specs.List.{remove}
use Rattle.std.proofs.lemmas.Bool.{cases_lt}
use Rattle.std.proofs.lemmas.List.{take_more}
use Rattle.std.proofs.lemmas.List.Quantifiers.{position-Some}
use Rattle.corr_core.specs.IdSlotWord.{Parts, parts}
use Rattle.corr_core.specs.declared.marks.Plan.{Plan}
use Rattle.corr_core.specs.declared.marks.View.{View}
use Rattle.corr_core.specs.declared.marks.Noted.{Noted}
use Rattle.corr_id.specs.declared.posts.Posted.{Posted}
use Rattle.corr_id.specs.declared.posts.Posted.TheVariants as posted
use Rattle.corr_id.specs.SeatBehindIdCalls.{Found, HasId, LacksId, Quiet, Did}
use Rattle.corr_id.specs.PostAnswers.{PostOk}
use Rattle.corr_id.proofs.TokensOfIdCalls.{quiet_after, got_after}
use Rattle.id_rule.specs.LawfulIdTable.{tokens_in}
use Rattle.sock_message.specs.Asked.{Asked}
use Rattle.prpc_frame.specs.declared.frame.Frame.{Frame}
use Rattle.rpc_reader.specs.ReaderBooks.{Books}
use Rattle.rpc_reader.specs.Met.{has_response, is_for, FrameMet}
use Rattle.rpc_reader.specs.PostingAtReadingEnd.{call_at, attempt_at, FoundOf, kept_at, PostedLast, MetOrPosted, PostedOne, PostedAll}
use Rattle.rpc_reader.proofs.FramesMetInTurn.{for_responds}
use mathlib.Core.Option.{some}
use lib.ListN.{get_elem?}
use Rattle.std.proofs.Common.{zero, suc, true, ap, arith, ⊎_elim}
use Rattle.sock_words.specs.PackedWords.{id_slot, id_first}

module _ (p : Plan) (link code : ℕ) where
  posted_more : (os : List ℕ) (o : ℕ) (b m b' : Books) → PostedAll p link code os b m → PostedOne p link code o m b' → PostedAll p link code (os ++ o ∷ []) b b'
  posted_more [] o b m b' a one = (b', subst (λ (n : Books). PostedOne p link code o n b') a one, refl)
  posted_more (x ∷ xs) o b m b' a one = (a.0, a.1, posted_more xs o a.0 m b' a.2 one)

  pub posted_next : (os : List ℕ) (i : ℕ) (b m b' : Books) → i < length os → PostedAll p link code (take i os) b m → PostedOne p link code (get_or os i 0) m b' → PostedAll p link code (take (i + 1) os) b b'
  posted_next os i b m b' lt a one = subst (λ (l : List ℕ). PostedAll p link code l b b') (sym (take_more os i 0 lt)) (posted_more (take i os) (get_or os i 0) b m b' a one)

-- the first kept response of an attempt is one
pub first_responds : (slot : ℕ) (w : Parts) (early : List Frame) (i : ℕ) (f : Frame) → Some i ≡ position (is_for slot w) early → f ≡ get_or early i f → has_response f.meta.response ≡ true
first_responds slot w early i f e is = for_responds slot w f (subst (λ (y : Frame). is_for slot w y ≡ true) (sym is) (position-Some (is_for slot w) early i f (sym e)).1)

-- the one that is removed stands there
pub stands : {A : Type 0} (xs : List A) (i : ℕ) (x : A) → i < length xs → x ≡ get_or xs i x → get_elem? xs i ≡ some x
stands [] i x lt e = absurd (omega arith)
stands (y ∷ ys) zero x lt e = ap some (sym e)
stands (y ∷ ys) (suc n) x lt e = stands ys n x (omega arith) e

pub first_inside : (slot : ℕ) (w : Parts) (early : List Frame) (i : ℕ) (f : Frame) → Some i ≡ position (is_for slot w) early → i < length early
first_inside slot w early i f e = (position-Some (is_for slot w) early i f (sym e)).0

-- ## The call that an at word names

-- a word that has the id stands in a slot of the table
pub found_of : (slots w id word : ℕ) (v : View Asked) → id ≡ call_at w → (id_slot id < slots → Found (id_slot id) word v × (0 < word)) → (slots ≤ id_slot id → word ≡ 0) → HasId (parts word) (id_first id) → FoundOf w word v
found_of slots w id word v e found none_ has = subst (λ (n : ℕ). Found (id_slot n) word v × HasId (parts word) (id_first n)) e ((found (inside has none_)).0, has)
  where
    inside : HasId (parts word) (id_first id) → (slots ≤ id_slot id → word ≡ 0) → id_slot id < slots
    inside h z = ⊎_elim (λ lt. lt) (λ ge. absurd (let e₀ = ap (λ (n : ℕ). (parts n).state) (z ge) in let some_ = h.1 in omega (arith, e₀, some_))) (cases_lt (id_slot id) slots)

-- and one that lacks it tells that the id has ended
pub gone_last : (slots code w id word : ℕ) (b : Books) (seen : View Asked) → id ≡ call_at w → Quiet b.view seen → (id_slot id < slots → Found (id_slot id) word seen × (0 < word)) → (slots ≤ id_slot id → word ≡ 0) → LacksId (parts word) (id_first id) → MetOrPosted slots code w b (record b { view = seen })
gone_last slots code w id word b seen e quiet found none_ lacks = inr record {
  answer = posted.Gone word;
  seen = seen;
  posted = subst (λ (n : ℕ). Quiet b.view seen × (((slots ≤ id_slot n) × (word ≡ 0)) ⊎ (Found (id_slot n) word seen × LacksId (parts word) (id_first n)))) e
      (quiet, ⊎_elim (λ lt. inr ((found lt).0, lacks)) (λ ge. inl (ge, none_ ge)) (cases_lt (id_slot id) slots));
  none_kept = tt;
  then_ = refl;
}

pub kept_is : (slot slot' word word' : ℕ) (early early' : List Frame) → slot ≡ slot' → word ≡ word' → early ≡ early' → position (is_for slot (parts word)) early ≡ position (is_for slot' (parts word')) early'
kept_is slot slot' word word' early early' a b c = λ k. position (is_for (a k) (parts (b k))) (c k)

-- the first response that was kept for it
pub met_kept : (slots code w word place : ℕ) (b b' : Books) (seen : View Asked) (frame : Frame) → Quiet b.view seen → FoundOf w word seen → Some place ≡ kept_at w word b.early → frame ≡ get_or b.early place frame → FrameMet slots frame (record b { view = seen; early = remove b.early place }) b' → MetOrPosted slots code w b b'
met_kept slots code w word place b b' seen frame quiet found first is met = inl record {
  seen = seen;
  quiet = quiet;
  word = word;
  found = found;
  place = place;
  first = sym first;
  frame = frame;
  there = stands b.early place frame (first_inside (id_slot (call_at w)) (parts word) b.early place frame first) is;
  met = met;
}

did_after : (i : ℕ) (u v w : View Asked) (es : List (Noted Asked)) → Quiet u v → Did i v w (tokens_in i v) es → Did i u w (tokens_in i u) es
did_after i u v w es q d = record {
  tokens = d.tokens ∙ q.tokens i;
  others = λ j n. d.others j n ∙ q.tokens j;
  added = d.added ∙ ap (λ l. es ++ l) q.events_same;
  grows = λ j g. (let x = q.grows j g in let y = d.grows j g in omega (arith, x, y));
  kept = d.kept ∙ q.kept;
  share = d.share ∙ q.share;
}

-- a post behind a look
post_after : (slots id code : ℕ) (attempt : Option ℕ) (u v w : View Asked) (answer : Posted Asked) → Quiet u v → PostOk slots v w id code attempt answer → PostOk slots u w id code attempt answer
post_after slots id code attempt u v w (posted.Locked k) q (a, b, c, d, (word, got)) = (a, b, c, d, (word, got_after k.slot u v w word (parts k.word.0) k.content q got))
post_after slots id code attempt u v w posted.Queued q (did, was) = (did_after (id_slot id) u v w _ q did, was)
post_after slots id code attempt u v w (posted.Gone found) q (quiet, was) = (quiet_after u v w q quiet, was)
post_after slots id code attempt u v w (posted.Stale current) q (quiet, stale, was) = (quiet_after u v w q quiet, stale, was)
post_after slots id code attempt u v w (posted.Crowded first second) q (quiet, was) = (quiet_after u v w q quiet, was)

pub last_after : (slots code w : ℕ) (b b' : Books) (seen : View Asked) → Quiet b.view seen → PostedLast slots code w (record b { view = seen }) b' → MetOrPosted slots code w b b'
last_after slots code w b b' seen quiet l = inr record {
  answer = l.answer;
  seen = l.seen;
  posted = post_after slots (call_at w) code (attempt_at w) b.view seen l.seen l.answer quiet l.posted;
  none_kept = l.none_kept;
  then_ = l.then_;
}
