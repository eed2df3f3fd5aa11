-- What a reader costs: its reading, the end of its socket, a post for each call, and what it throws away.
use Rattle.std.proofs.Common.{ℕ, suc, ◌+◌, ◌-◌, ◌*◌, ◌&&◌, cond, eqb, nat_lt, List, [], ◌∷◌, length, arith}
use Rattle.sock_words.specs.declared.plain.Plan.{Plan}
use Rattle.sock_words.specs.PackedWords.{socket_id_slot, at_word_first, at_word_slot, at_word_link, at_word_attempt, call_id, id_first, NO_SOCKET}
use Rattle.sock_model.specs.declared.view.View.{View}
use Rattle.corr_core.specs.IdSlotWord.{parts, error_of}
use Rattle.program_walks.specs.brpc_model.specs.Frame.{Frame}
use Rattle.seat_programs.specs.Asides.{LoadAt}
use Rattle.seat_programs.specs.LoopHeads.{Reads, Discards, Posting, HasLocked, Deciding, HasEnded, GoesOn, Ended}
use Rattle.seat_programs.specs.Programs.{Program, Rest, Aside, Round, add_reference, release, set_failed}
use Rattle.seat_programs.specs.PostPrograms.{post_with, decided}
use Rattle.seat_programs.specs.ReaderProgram.{LIMIT, kept_for, ends_with, posted_last, post_each, thrown_away, read, reader}
use Rattle.program_walks.specs.program_steps.specs.IdWordFits.{FitsPosting}
use Rattle.program_walks.specs.program_steps.specs.TicksLeftAtMost.{CHANGE, ERROR, POST, FRAME, LastsFor}
use Rattle.runs_end.proofs.IdCosts.{lasts_more, judged_lasts, decide_lasts}
use Rattle.runs_end.proofs.ReadCosts.{answer_lasts}
use Rattle.runs_end.proofs.Costs.{Lasting, lasting_more, either_lasts, set_failed_lasts}
use Rattle.runs_end.proofs.AttemptCosts.{release_lasts, address_lasts}

-- the posts of a reader, over so many calls
abbrev pub posts_cost : ℕ → ℕ
posts_cost calls = calls * (1 + POST) + (LIMIT + 1)

abbrev pub reader_cost : ℕ → ℕ
reader_cost calls = LIMIT * (1 + FRAME) + 13 + posts_cost calls

module _ (p : Plan) where
  decided_last : (v : View) (id : ℕ) (next : Program) (n : ℕ) → LastsFor p v next n → (exit : Deciding) → LastsFor p v (decided id next exit) (n + 0)
  decided_last v id next n l (HasEnded o code) = lasts_more p v next n (n + 0) (omega arith) l
  decided_last v id next n l GoesOn = lasts_more p v next n (n + 0) (omega arith) l

  ends_last : (v : View) (id e word : ℕ) (kept : List Frame) (next : Program) (n : ℕ) → LastsFor p v next n → LastsFor p v (ends_with id e word kept next) (ERROR + n + 0)
  ends_last v id e word [] next n l = decide_lasts p v id word e (decided id next) n (ERROR + n + 0) (decided_last v id next n l) (omega arith)
  ends_last v id e word (f ∷ fs) next n l = lasts_more p v (ends_with id e word (f ∷ fs) next) (CHANGE + 2 + n) (ERROR + n + 0) (omega arith) (answer_lasts p v f (id_first id) next n l)

  posted_last_lasts : (v : View) (id e : ℕ) (kept : List Frame) (next : Program) (n : ℕ) → LastsFor p v next n → (exit : Posting) → FitsPosting exit → LastsFor p v (posted_last id e kept next exit) (ERROR + n + 0)
  posted_last_lasts v id e kept next n l (HasLocked word) f = ends_last v id e word (kept_for id (parts word).range kept) next n l
  posted_last_lasts v id e kept next n l _ f = lasts_more p v next n (ERROR + n + 0) (omega arith) l

  posts_last : (id e : ℕ) (kept : List Frame) (next : Program) (n : ℕ) → Lasting p next n → Lasting p (post_with id e (posted_last id e kept next)) (POST + n)
  posts_last id e kept next n l v = λ found _.
      let x = judged_lasts p v id e found (posted_last id e kept next) (ERROR + n) (POST + n) (posted_last_lasts v id e kept next n (l v)) (omega arith) in let le = x.1 in (x.0, omega (arith, le), x.2)

  -- the post for one call
  module _ (k code : ℕ) (kept : List Frame) (rest : Program) (n : ℕ) (l : Lasting p rest n) where
    abbrev posting : ℕ → Program
    posting w = post_with (call_id (at_word_slot w) (at_word_first w)) (error_of code (at_word_attempt w)) (posted_last (call_id (at_word_slot w) (at_word_first w)) (error_of code (at_word_attempt w)) kept rest)

    later : Lasting p rest (POST + n)
    later = lasting_more p rest n (POST + n) (omega arith) l

    one_lasts : (o : ℕ) → Lasting p (Aside (LoadAt o) (λ w. cond (eqb w 0) rest (cond (eqb (at_word_link w) k) (posting w) rest))) (1 + POST + n)
    one_lasts o v = λ w _. (
      POST + n,
      omega arith,
      either_lasts p rest (cond (eqb (at_word_link w) k) (posting w) rest) (POST + n) (eqb w 0) later
          (either_lasts p (posting w) rest (POST + n) (eqb (at_word_link w) k) (posts_last (call_id (at_word_slot w) (at_word_first w)) (error_of code (at_word_attempt w)) kept rest n l) later) v,
    )

  post_each_lasts : (os : List ℕ) (k code : ℕ) (kept : List Frame) (next : Program) (n : ℕ) → Lasting p next n → Lasting p (post_each os k code kept next) (length os * (1 + POST) + n)
  post_each_lasts [] k code kept next n l v = lasts_more p v next n (0 * (1 + POST) + n) (omega arith) (l v)
  post_each_lasts (o ∷ os) k code kept next n l v = lasting_more p (post_each (o ∷ os) k code kept next) (1 + POST + (length os * (1 + POST) + n)) (suc (length os) * (1 + POST) + n) (omega arith)
      (one_lasts k code kept (post_each os k code kept next) (length os * (1 + POST) + n) (post_each_lasts os k code kept next n l) o) v

  thrown_lasts : (how : Ended) → Lasting p (thrown_away how) (LIMIT + 1)
  thrown_lasts how = either_lasts p (Round (Discards how.reading.link how.reading.total) (λ _. Rest)) Rest (LIMIT + 1) (how.fault && nat_lt how.reading.total LIMIT) (λ v. (0, omega arith, λ _ _. tt)) (λ v. tt)

  read_lasts : (calls : List ℕ) (how : Ended) → Lasting p (read calls how) (11 + posts_cost (length calls))
  read_lasts calls how = either_lasts p last (add_reference how.reading.id (set_failed how.reading.id how.code (λ _. release (socket_id_slot how.reading.id) (λ _. last))) (λ _. last)) (11 + posts_cost (length calls)) how.closed
      (lasting_more p last (posts_cost (length calls)) (11 + posts_cost (length calls)) (omega arith) lasts)
      (lasting_more p (add_reference how.reading.id (set_failed how.reading.id how.code (λ _. release (socket_id_slot how.reading.id) (λ _. last))) (λ _. last)) (1 + (10 + posts_cost (length calls))) (11 + posts_cost (length calls)) (omega arith)
      (address_lasts p how.reading.id (set_failed how.reading.id how.code (λ _. release (socket_id_slot how.reading.id) (λ _. last))) (λ _. last) (10 + posts_cost (length calls)) (posts_cost (length calls)) (omega arith)
      (lasting_more p (set_failed how.reading.id how.code (λ _. release (socket_id_slot how.reading.id) (λ _. last))) (3 + (7 + posts_cost (length calls))) (10 + posts_cost (length calls)) (omega arith)
      (set_failed_lasts p how.reading.id how.code (λ _. release (socket_id_slot how.reading.id) (λ _. last)) (7 + posts_cost (length calls)) (λ found. release_lasts p (socket_id_slot how.reading.id) (λ _. last) (posts_cost (length calls)) (λ b. lasts))))
      (λ found. lasts)))
    where
      last : Program
      last = post_each calls how.reading.link how.code how.reading.kept (thrown_away how)

      lasts : Lasting p last (posts_cost (length calls))
      lasts = post_each_lasts calls how.reading.link how.code how.reading.kept (thrown_away how) (LIMIT + 1) (thrown_lasts how)

  pub reader_lasts : (calls : List ℕ) (k o : ℕ) → Lasting p (reader calls k o) (reader_cost (length calls))
  reader_lasts calls k o v = (
    LIMIT * (1 + FRAME) + 12 + posts_cost (length calls),
    omega arith,
    λ word u. either_lasts p Rest (reads word) (LIMIT * (1 + FRAME) + 12 + posts_cost (length calls)) (eqb word NO_SOCKET) (λ w. tt)
        (λ w. (11 + posts_cost (length calls), omega arith, λ how _. lasts_more p w (read calls how) (11 + posts_cost (length calls)) (11 + posts_cost (length calls) + 0) (omega arith) (read_lasts calls how w))) u,
  )
    where
      reads : ℕ → Program
      reads word = Round (Reads (record { ids = length calls; link = k; id = word - 1; rest = []; total = 0; kept = [] })) (read calls)
