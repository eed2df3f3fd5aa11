-- Each exchange of an id word is one event of the plain id that the word says.
use Rattle.std.proofs.Common.{◌≡◌, ◌≢◌, ℕ, ◌+◌, ◌<◌, ◌≤◌, Bool, List, [], ◌∷◌, sym, refl, subst, MatchOption}
use Rattle.std.specs.Prelude.{Option, Some, None}
use Rattle.corr_core.specs.IdSlotWord.{Parts, error_of, posted_word, unlocked_word, free_word}
use Rattle.corr_core.specs.PlainCallId.{Ended, Plain, Event, Queue, Unlock, End, Run, IsEvent, EndsOnce}
use Rattle.corr_core.proofs.IdEndsOnce.{nothing_after, ends_once, queue_reads, unlock_reads, end_reads}
use Rattle.sock_words.specs.PackedWords.{bit}

-- the event by the word's parts
module _ (e : Event) (who : ℕ) (w x : Parts) where
  becomes : (y : Parts) → x ≡ y → IsEvent e who w y → IsEvent e who w x
  becomes y same is = subst (λ z. IsEvent e who w z) (sym same) is

pub ended : (who next : ℕ) (w x : Parts) → x ≡ free_word next → w.state ≡ 2 → w.first < next → IsEvent (End who) who w x
ended who next w x same two up = becomes (End who) who w x (free_word next) same (λ p r. end_reads w.first who next w p refl two up r)

pub unlocked : (who : ℕ) (advance : Bool) (w x : Parts) → x ≡ unlocked_word w (bit advance) → w.state ≡ 2 → w.attempt + bit advance + 2 ≤ w.range → IsEvent (Unlock who advance) who w x
unlocked who advance w x same two room = becomes (Unlock who advance) who w x (unlocked_word w (bit advance)) same (λ p r. unlock_reads w.first who advance w p refl two room r)

pub queued : (who poster e : ℕ) (w x : Parts) → x ≡ posted_word w e → w.state ≡ 2 → w.second ≡ 0 → e ≢ 0 → IsEvent (Queue poster e) who w x
queued who poster e w x same two room some_error = becomes (Queue poster e) who w x (posted_word w e) same (λ p r. queue_reads w.first who poster e w p refl two room some_error r)

-- what holds of the error holds of it by its code and attempt
pub for_error : (P : ℕ → Type 0) (attempt : Option ℕ) (code e : ℕ) → MatchOption attempt (e ≡ error_of code 7) (λ n. e ≡ error_of code n) → P e → MatchOption attempt (P (error_of code 7)) (λ n. P (error_of code n))
for_error P None code e same is = subst P same is
for_error P (Some n) code e same is = subst P same is

pub plain_ends : EndsOnce
plain_ends = record { once = ends_once; last = stays }
  where
    stays : (es : List Event) (p q : Plain) → p.phase ≡ Ended → Run es p q → es ≡ []
    stays [] p q h r = refl
    stays (e ∷ es) p q h r = absurd (nothing_after e p r.0 h r.1)
