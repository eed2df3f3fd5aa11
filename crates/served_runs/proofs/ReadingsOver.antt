-- Where the reader of a link comes to rest its reading is over: a take found its end, or what it gave ends the reading.
use Rattle.std.proofs.Common.{◌≡◌, ℕ, ◌+◌, ◌≤◌, ◌&&◌, ◌||◌, ◌⊎◌, inl, inr, nat_lt, ltb-false, Bool, true, false, cond, List, [], ◌∷◌, ◌++◌, length, length-append, append-nil, refl, sym, ap, ◌∙◌, subst, arith}
use Rattle.std.proofs.lemmas.Bool.{true≢false}
use Rattle.calm_runs.specs.send_causes.specs.Below.sock_steps.proofs.SumsAsMarksChange.{either_way}
use Rattle.brpc_model.specs.Frame.{Frame}
use Rattle.brpc_model.specs.FrameStream as streams
use Rattle.seat_programs.specs.Asides.{Step, Found, TakeBytes, Taking, Bytes, Nothing, NoMore, AtEnd, Closed, Broken}
use Rattle.seat_programs.specs.LoopHeads.{Head, Exit, Retry, Reading, Posts, Unlocks, Decides, Locks, Joins, Opens, Reads, Discards, Ended}
use Rattle.seat_programs.specs.Programs.{Program, Do, Say, Sent, Rest, Write, Aside, Round, Keep, Retries}
use Rattle.seat_programs.specs.ReaderProgram.{LIMIT, last_of, ended_by, read_on, took, discarded, thrown_away, read}
use Rattle.seat_programs.specs.LoopRounds.{round, first_step}
use Rattle.seat_programs.specs.Cores.{resolved, next_step}
use Rattle.calm_runs.specs.send_causes.specs.Below.run_theorems.specs.Heard.{bytes_found}
use Rattle.calm_runs.specs.send_causes.specs.Below.programs_allowed.specs.program_walks.proofs.Through.{PassesPlain, is_plain_aside, by_errors, locked, through_set_failed}
use Rattle.calm_runs.specs.send_causes.specs.Below.programs_allowed.specs.program_walks.proofs.ThroughLoops.{through_errors, through_locks, through_joins, through_answer, through_responses, through_opens}
use Rattle.calm_runs.specs.send_causes.specs.Below.programs_allowed.specs.program_walks.proofs.ThroughCalls.{through_post_each, through_read_end}
use Rattle.brpc_model.specs.LinkFailureCauses.{HasFault}
use Rattle.calm_runs.specs.send_causes.specs.Below.call_stories.proofs.StreamFramesStay.{faults_more, faults_follow, tied_more}

-- ## How a reading ends

-- by what the link gave: a frame fault, or as much as is read
abbrev pub IsBad : List ℕ → Type 0
IsBad g = HasFault g ⊎ (LIMIT ≤ length g)

-- or by a take that found so
abbrev pub is_last : Taking → Bool
is_last (Bytes bytes) = false
is_last Nothing = false
is_last _ = true

abbrev pub IsOver : List ℕ → Bool → Type 0
IsOver g last = (last ≡ true) ⊎ IsBad g

-- ## Programs

-- of the reader of link k
module _ (k : ℕ) where
  pub record IsReading (g : List ℕ) (r : Reading) : Type 0 where
    pub link : r.link ≡ k
    pub total : r.total ≡ length g
    pub tied : (more : List ℕ) → HasFault (r.rest ++ more) → HasFault (g ++ more)

  abbrev pub EndsSo : List ℕ → Bool → Ended → Type 0
  EndsSo g last how = IsOver g last × (how.reading.link ≡ k) × (how.fault ≡ true → HasFault g × (last ≡ false))

  -- where the link gave this, and a take found its end or none did so yet
  abbrev pub Goes : List ℕ → Bool → Program → Type 0
  Goes g last (Do call next) = (found : ℕ) → Goes g last (next found)
  Goes g last (Say o outcome next) = Goes g last next
  Goes g last (Sent o next) = Goes g last next
  Goes g last Rest = IsOver g last
  Goes g last (Aside (TakeBytes l room) next) = (l ≡ k) × (last ≡ false) × ((t : Taking) → Goes (g ++ bytes_found t) (last || is_last t) (next t))
  Goes g last (Aside step next) = (found : Found step) → Goes g last (next found)
  Goes g last (Round (Reads r) next) = (last ≡ false) × IsReading g r × ((how : Ended) (g' : List ℕ) (last' : Bool) → EndsSo g' last' how → Goes g' last' (next how))
  Goes g last (Round (Discards l total) next) = (l ≡ k) × (last ≡ false) × HasFault g × ((n : ℕ) (g' : List ℕ) (last' : Bool) → HasFault g' → Goes g' last' (next n))
  Goes g last (Round head next) = (exit : Exit head) → Goes g last (next exit)
  Goes g last (Keep r next) = Goes g last next
  Goes g last other = ⊥

  -- ## Parts of programs

  module _ (g : List ℕ) (last : Bool) where
    abbrev C : Program → Type 0
    C = Goes g last

    asides : (step : Step) (next : Found step → Program) → is_plain_aside step ≡ true → ((found : Found step) → C (next found)) → C (Aside step next)
    asides (TakeBytes l room) next is x = absurd (true≢false (sym is))
    asides step next is x = x

    go_plain : PassesPlain C
    go_plain = record {
      words = record { step = λ call next is x. x; say = λ o outcome next x. x };
      errors = record { say = λ o outcome next x. x; aside = asides; round = by_errors C (λ id e w next r. r) (λ i w advance next r. r) (λ id asked w e next r. r); again = λ id w next kept is x exit. subst C (sym (is exit)) (x exit) };
    }

    thrown_goes : (how : Ended) → EndsSo g last how → C (thrown_away how)
    thrown_goes how e = by how.fault refl
      where
        by : (b : Bool) → how.fault ≡ b → C (cond (b && nat_lt how.reading.total LIMIT) (Round (Discards how.reading.link how.reading.total) (λ _. Rest)) Rest)
        by true is = either_way (nat_lt how.reading.total LIMIT) (Round (Discards how.reading.link how.reading.total) (λ _. Rest)) Rest C (let f = e.2 is in (e.1, f.1, f.0, λ n g' last' f. inr (inl f))) e.0
        by false is = e.0

    -- the end of a reading
    pub read_goes : (calls : List ℕ) (how : Ended) → EndsSo g last how → C (read calls how)
    read_goes calls how e = through_read_end C go_plain.words calls how (through_set_failed C go_plain.words (λ call next is x. x) how.code)
        (through_post_each C go_plain.errors calls how.reading.link how.code how.reading.kept (thrown_away how) (thrown_goes how e))

  -- ## Reading

  abbrev Ends : (Ended → Program) → Type 0
  Ends next = (how : Ended) (g' : List ℕ) (last' : Bool) → EndsSo g' last' how → Goes g' last' (next how)

  or_true : (last : Bool) → (last || true) ≡ true
  or_true true = refl
  or_true false = refl

  module _ (g : List ℕ) (last : Bool) (not_yet : last ≡ false) (r : Reading) (next : Ended → Program) (at : IsReading g r) (ends : Ends next) where
    none_yet : (last || false) ≡ false
    none_yet = ap (λ b. b || false) not_yet

    abbrev with_more : List ℕ → List Frame → Reading
    with_more bytes kept = record { ids = r.ids; link = r.link; id = r.id; rest = r.rest; total = r.total + length bytes; kept = kept }

    more_total : (bytes : List ℕ) → r.total + length bytes ≡ length (g ++ bytes)
    more_total bytes = let a = at.total in let d = length-append g bytes in omega (arith, a, d)

    -- a fault of the rest with what came is one of all that came
    all_tied : (bytes more : List ℕ) → HasFault ((r.rest ++ bytes) ++ more) → HasFault ((g ++ bytes) ++ more)
    all_tied bytes more f = tied_more r.rest g bytes more at.tied f

    abbrev with_rest : List ℕ → List Frame → ℕ → Reading
    with_rest bytes kept n = record { ids = r.ids; link = r.link; id = r.id; rest = last_of n (r.rest ++ bytes); total = r.total + length bytes; kept = kept }

    go_read_on : (last' : Bool) → last' ≡ false → (kept : List Frame) (bytes : List ℕ) (s : streams.Ending) → (streams.stream (r.rest ++ bytes)).ending ≡ s → Goes (g ++ bytes) last' (read_on (with_more bytes kept) (r.rest ++ bytes) s next)
    go_read_on last' off kept bytes (streams.Rest n) is = by (nat_lt (r.total + length bytes) LIMIT) refl
      where
        by : (b : Bool) → nat_lt (r.total + length bytes) LIMIT ≡ b → Goes (g ++ bytes) last' (cond b (Round (Reads (with_rest bytes kept n)) next) (next (ended_by 1014 false false (with_rest bytes kept n))))
        by true less = (off, record { link = at.link; total = more_total bytes; tied = λ more f. all_tied bytes more (faults_follow (r.rest ++ bytes) more n is f) }, ends)
        by false most = ends (ended_by 1014 false false (with_rest bytes kept n)) (g ++ bytes) last' (inr (inr (let l = ltb-false (r.total + length bytes) LIMIT most in let t = more_total bytes in omega (arith, l, t))), at.link, λ e. absurd (true≢false (sym e)))
    go_read_on last' off kept bytes (streams.Fault start fault) is = let f : HasFault (g ++ bytes) = subst HasFault (append-nil (g ++ bytes)) (all_tied bytes [] (subst HasFault (sym (append-nil (r.rest ++ bytes))) (start, fault, is))) in
        ends (ended_by 2002 false true (with_more bytes kept)) (g ++ bytes) last' (inr (inl f), at.link, λ _. (f, off))

    same_reading : IsReading (g ++ []) r
    same_reading = subst (λ l. IsReading l r) (sym (append-nil g)) at

    found_last : (closed : Bool) (t : Taking) → is_last t ≡ true → Goes (g ++ bytes_found t) (last || is_last t) (next (ended_by 1014 closed false r))
    found_last closed t is = ends (ended_by 1014 closed false r) (g ++ bytes_found t) (last || is_last t) (inl (ap (λ b. last || b) is ∙ or_true last), at.link, λ e. absurd (true≢false (sym e)))

    go_took : (t : Taking) → Goes (g ++ bytes_found t) (last || is_last t) (took r next t)
    go_took (Bytes bytes) = through_responses (Goes (g ++ bytes) (last || false)) (λ i v next' x. x) (through_answer (Goes (g ++ bytes) (last || false)) (locked (go_plain (g ++ bytes) (last || false)).errors)) r.ids (streams.stream (r.rest ++ bytes)).frames r.kept (λ kept. read_on (with_more bytes kept) (r.rest ++ bytes) (streams.stream (r.rest ++ bytes)).ending next)
        (λ kept. go_read_on (last || false) none_yet kept bytes (streams.stream (r.rest ++ bytes)).ending refl)
    go_took Nothing = (none_yet, same_reading, ends)
    go_took NoMore = found_last false NoMore refl
    go_took AtEnd = found_last false AtEnd refl
    go_took Closed = found_last true Closed refl
    go_took Broken = found_last false Broken refl

  go_discarded : (g : List ℕ) (last : Bool) → last ≡ false → (l total : ℕ) (next : ℕ → Program) → l ≡ k → HasFault g → ((n : ℕ) (g' : List ℕ) (last' : Bool) → HasFault g' → Goes g' last' (next n)) → (t : Taking) → Goes (g ++ bytes_found t) (last || is_last t) (discarded l total next t)
  go_discarded g last off l total next own f goes (Bytes bytes) = either_way (nat_lt (total + length bytes) LIMIT) (Round (Discards l (total + length bytes)) next) (next (total + length bytes)) (Goes (g ++ bytes) (last || false))
      (own, ap (λ b. b || false) off, faults_more g bytes f, goes) (goes (total + length bytes) (g ++ bytes) (last || false) (faults_more g bytes f))
  go_discarded g last off l total next own f goes Nothing = (own, ap (λ b. b || false) off, faults_more g [] f, goes)
  go_discarded g last off l total next own f goes _ = goes total (g ++ []) (last || true) (faults_more g [] f)

  -- one round of a loop
  go_round : (g : List ℕ) (last : Bool) (head : Head) (next : Exit head → Program) → Goes g last (Round head next) → Goes g last (round head next)
  go_round g last (Posts i e w) next x = through_errors (Goes g last) (go_plain g last).errors (Posts i e w) next refl x
  go_round g last (Unlocks i w advance) next x = through_errors (Goes g last) (go_plain g last).errors (Unlocks i w advance) next refl x
  go_round g last (Decides i asked w e) next x = through_errors (Goes g last) (go_plain g last).errors (Decides i asked w e) next refl x
  go_round g last (Locks i sought w) next x = through_locks (Goes g last) (locked (go_plain g last).errors) (λ i sought w next y. y) i sought w next x
  go_round g last (Joins i) next x = through_joins (Goes g last) (locked (go_plain g last).errors) (λ i next y. y) i next x
  go_round g last (Opens o) next x = through_opens (Goes g last) (record { load = λ o next y. y; wait = λ o next y. y }) o next x
  go_round g last (Reads r) next x = let at = x.1 in (at.link, x.0, λ t. go_took g last x.0 r next at x.2 t)
  go_round g last (Discards l total) next x = (x.0, x.1, λ t. go_discarded g last x.1 l total next x.0 x.2 x.3 t)

  pub goes_first : (g : List ℕ) (last : Bool) (program : Program) → Goes g last program → Goes g last (first_step program)
  goes_first g last (Write w after) x = absurd x
  goes_first g last (Round head next) x = go_round g last head next x
  goes_first g last _ x = x

  pub goes_next : (g : List ℕ) (last : Bool) (ws : List Retry) (program : Program) → Goes g last program → Goes g last (next_step (resolved ws program))
  goes_next g last ws (Say o outcome next) x = goes_next g last ws next x
  goes_next g last ws (Sent o next) x = goes_next g last ws next x
  goes_next g last ws (Keep r next) x = goes_next g last (ws ++ r ∷ []) next x
  goes_next g last ws (Retries requests after) x = absurd x
  goes_next g last ws _ x = x

  -- the reader's program where it begins to read
  pub begins_reading : (calls : List ℕ) (ids id : ℕ) → Goes [] false (Round (Reads (record { ids = ids; link = k; id = id; rest = []; total = 0; kept = [] })) (read calls))
  begins_reading calls ids id = (refl, record { link = refl; total = refl; tied = λ more f. f }, λ how g' last' e. read_goes g' last' calls how e)
