-- Where a seat goes on behind each kind of step.
use Rattle.std.proofs.Common.{◌≡◌, refl, ℕ, zero, suc, ◌+◌, Bool, true, false, if◌then◌else◌, List, [], ◌∷◌, ◌++◌, length, map, take, Option, Some, ap, ap₂, sym, ◌∙◌, arith, subst}
use Rattle.sock_words.specs.declared.outcome.Outcome.{Outcome}
use Rattle.sock_io.specs.declared.link.Put.{Put}
use Rattle.sock_io.specs.declared.link.Put.TheVariants as puts
use Rattle.message_parts.specs.FramesByParts.{OutgoingData, ParcelData}
use Rattle.seat_programs.specs.declared.task.Sizes.{Sizes}
use Rattle.seat_programs.specs.Programs.{Program, Aside, Round}
use Rattle.corr_core.specs.IdSlotWord.{parts, code_of}
use Rattle.corr_core.specs.EndedByRangeOrAttempt.{ends_call}
use Rattle.id_points.specs.IdsAndAttemptNumbers.{id_of}
use Rattle.seat_programs.specs.Asides.{PutCall}
use Rattle.seat_programs.specs.LoopHeads.{Retry, HasEnded, Unlocks}
use Rattle.seat_programs.specs.PostPrograms.{end_id, unlocked, decided}
use Rattle.seat_programs.specs.Cores.{resolved, still_waiting, next_step, said}
use Rattle.seat_programs.specs.TableSteps as calls
use Rattle.sock_model.specs.declared.chain.Heading.{Heading}
use Rattle.seat_states.specs.declared.point.OpenStep.TheVariants as opens
use Rattle.seat_states.specs.declared.point.SeekStep.TheVariants as seeks
use Rattle.seat_states.specs.declared.point.Aim.TheVariants as aims
use Rattle.seat_states.specs.declared.point.FailStep.TheVariants as fails
use Rattle.seat_states.specs.declared.point.ReleaseStep.TheVariants as releases
use Rattle.seat_states.specs.declared.point.SendStep.TheVariants as sends
use Rattle.seat_states.specs.declared.point.WriteStep.TheVariants as writes
use Rattle.call_points.specs.declared.deciding.DecideStep.TheVariants as decides
use Rattle.call_points.specs.declared.word_step.WordStep.TheVariants as id_steps
use Rattle.call_points.specs.AsideCodeSteps.{after_word}
use Rattle.seat_states.specs.declared.point.Author.{Author}
use Rattle.seat_states.specs.declared.point.Author.TheVariants as authors
use Rattle.seat_states.specs.declared.point.CallStep.TheVariants as begins
use Rattle.seat_states.specs.declared.point.AttemptStep.TheVariants as attempts
use Rattle.seat_states.specs.declared.point.RetryStep.TheVariants as retries
use Rattle.seat_states.specs.declared.point.JoinStep.TheVariants as joins
use Rattle.seat_states.specs.declared.point.Point.{Point}
use Rattle.seat_states.specs.declared.point.Point.TheVariants as points
use Rattle.seat_states.specs.ProgramStepsOfMachine.{First, OfTable, step_as, first_of, first_in}
use Rattle.seat_states.specs.declared.point.Next.{Next}
use Rattle.seat_states.specs.declared.point.Step.{Step}
use Rattle.seat_states.specs.ProgramAtPoint.{Context, point_program, look_program, after_program, next_program, with_message, with_put, is_whole, parts_by, after_message, after_put}
use Rattle.seat_programs.specs.Ticks.{Answer}
use Rattle.client_seats.specs.ClientSeatState.{SeatData, around, seat_program, bytes_of, parts_of, left_of, taken_of, left_parts_of}
use Rattle.client_seats.specs.ClientSeatFollowing.{FollowsOn}
use Rattle.brpc_model.specs.ReturnedLink.{LinkEnd}
use Rattle.sock_io.specs.LinkHalves.{OutState, InState, PutStep}
use Rattle.seat_programs.specs.BufferParts.{part}
use Rattle.machine_model.specs.MachineLinks.{LinksData}
use Rattle.machine_model.specs.Machines.{TableState, table_sizes}
use Rattle.machine_model.specs.MachineSteps.{SameBase, Goes, Makes, MadeFirst, LinkAsked, IsNext, AskedAt, OutsAfter, left_behind, taken_behind}
use Rattle.sock_words.specs.PackedWords.{id_slot}

-- a list that was written whole
pub written : {A : Type 0} (n : ℕ) (xs ys : List A) → length xs ≡ n → take n (xs ++ ys) ≡ xs
written zero [] ys e = refl
written zero (x ∷ xs) ys e = absurd (omega arith)
written (suc n) [] ys e = absurd (omega arith)
written (suc n) (x ∷ xs) ys e = ap (λ (l : List _). x ∷ l) (written n xs ys (omega arith))

-- the table as it lies in memory
pub makes_along : {t u fresh : TableState} {i : ℕ} {seat seat' : SeatData} {step : Step} {answer : Answer} → t ≡ u → MadeFirst t fresh i seat seat' step (step_as (around (table_sizes t) seat) step) answer → Makes u fresh i seat seat' step answer
makes_along {t} {u} {fresh} {i} {seat} {seat'} {step} {answer} e h = subst (λ (x : TableState). Makes x fresh i seat seat' step answer) e (record { is = h })

-- the seat goes on with the program behind its step, and the outcomes were written whole
pub goes : {old fresh : TableState} {seat mid seat' : SeatData} {next : Program} {s : Sizes} {before behind : List (Option Outcome)} (p : Program) → SameBase old fresh → s ≡ table_sizes old → before ≡ old.outcomes → fresh.outcomes ≡ behind → FollowsOn s mid seat' p before behind
    → mid.waiting ≡ seat.waiting → p ≡ next → Goes old fresh seat seat' next
goes {old} {fresh} {seat} {mid} {seat'} {next} {s} p base sizes was wrote f same is = record {
  base = base;
  program = subst (λ (x : Sizes). seat_program x seat' ≡ next_step (resolved seat.waiting next)) sizes (f.next ∙ ap₂ (λ (w : List Retry) (q : Program). next_step (resolved w q)) same is);
  waiting = f.waiting ∙ ap₂ still_waiting same is;
  told = wrote ∙ f.told ∙ ap (λ (os : List (Option Outcome)). said (resolved mid.waiting p) os) was ∙ ap₂ (λ (w : List Retry) (q : Program). said (resolved w q) old.outcomes) same is;
}

pub same_sizes : (s sizes : Sizes) (seat : SeatData) (f : Program → Program) → s ≡ sizes → f (point_program (around s seat) seat.point) ≡ f (seat_program sizes seat)
same_sizes s sizes seat f e = rw e refl

pub links_are : {hs hs' : List (Option ℕ)} {ns ns' : List ℕ} (os : List OutState) (is : List InState) → hs ≡ hs' → ns ≡ ns' → (let l : LinksData = record { holders = hs; nexts = ns; outs = os; inns = is } in l) ≡ (record { holders = hs'; nexts = ns'; outs = os; inns = is })
links_are os is e f = λ k. record { holders = e k; nexts = f k; outs = os; inns = is }

-- the step next to the table as it lies in memory
pub next_along : {t u : TableState} (seat : SeatData) (step : Step) → t ≡ u → IsNext u seat step → first_in (seat_program (table_sizes t) seat) ≡ Some (step_as (around (table_sizes t) seat) step)
next_along {t} {u} seat step e h = subst (λ (x : TableState). IsNext x seat step) (sym e) h

-- the link was asked, and all but its writing half stays
pub link_asked : {old fresh : TableState} {i : ℕ} {seat seat' : SeatData} {k : ℕ} {next : Program} {HasAnswered : OutState → OutState → Type 0} → Goes old fresh seat seat' next → AskedAt old.links.outs fresh.links.outs old.ends fresh.ends k HasAnswered
    → fresh.words ≡ old.words → fresh.letters ≡ old.letters → fresh.links.holders ≡ old.links.holders → fresh.links.nexts ≡ old.links.nexts → fresh.ids ≡ old.ids → LinkAsked old fresh i seat seat' k next HasAnswered
link_asked goes asked words letters holders nexts ids = record { goes = goes; words = words; letters = letters; holders = holders; nexts = nexts; ids = ids; asked = asked }

-- links that were written whole
pub asked_in : {A : Type 0} (f : A → OutState) (e : A → LinkEnd) {items before wrote news : List A} {k : ℕ} {HasAnswered : OutState → OutState → Type 0} → before ≡ items → wrote ≡ news → AskedAt (map f before) (map f news) (map e before) (map e news) k HasAnswered →
    AskedAt (map f items) (map f wrote) (map e items) (map e wrote) k HasAnswered
asked_in f e was is h = rw (← was, is) h

-- what a step leaves of their halves
pub record HalvesAfter {A : Type 0} (f : A → OutState) (n : A → InState) (e : A → LinkEnd) (call : calls.TableStep) (items wrote : List A) : Type 0 where
  pub outs : OutsAfter call (map f items) (map f wrote)
  pub inns : map n wrote ≡ map n items
  pub ends : map e wrote ≡ map e items

pub halves_in : {A : Type 0} (f : A → OutState) (n : A → InState) (e : A → LinkEnd) (call : calls.TableStep) {items before wrote news : List A} → before ≡ items → wrote ≡ news → OutsAfter call (map f before) (map f news) → map n news ≡ map n before → map e news ≡ map e before → HalvesAfter f n e call items wrote
halves_in f n e call was is outs inns ends = rw (← was, is) (record { outs = outs; inns = inns; ends = ends })

-- with a message in hand
pub message_is : (s sizes : Sizes) (seat : SeatData) (out' : Option OutgoingData) (n : Next) (author author' : Author) (parts bytes : List ℕ) → s ≡ sizes → out' ≡ Some (record { left = bytes; taken = 0; parts = parts }) → author ≡ author' →
    ((a : Context) (ps bs : List ℕ) → next_program (with_message ps bs a) n ≡ after_message (point_program a seat.point) author ps bs) → next_program (around s (record seat { out = out' })) n ≡ after_message (seat_program sizes seat) author' parts bytes
message_is s sizes seat out' n author author' parts bytes e f g h = rw (e, f, ← g) (h (around sizes seat) parts bytes)

-- behind a put
pub put_is : (s sizes : Sizes) (seat : SeatData) (out' : Option OutgoingData) (n : Next) (put : Put) (whole : Bool) → s ≡ sizes → left_of out' ≡ left_behind put (left_of seat.out) → taken_of out' ≡ taken_behind put (taken_of seat.out) → left_parts_of out' ≡ left_parts_of seat.out → whole ≡ is_whole (left_of seat.out) put →
    ((a : Context) → whole ≡ is_whole a.left put → next_program (with_put put a) n ≡ after_put (point_program a seat.point) put) → next_program (around s (record seat { out = out' })) n ≡ after_put (seat_program sizes seat) put
put_is s sizes seat out' n (puts.Took count) whole e f g k w h = rw (e, f, g, k) (h (around sizes seat) w)
put_is s sizes seat out' n puts.Again whole e f g k w h = rw (e, f, g, k) (h (around sizes seat) w)
put_is s sizes seat out' n puts.Failed whole e f g k w h = rw (e, f, g, k) (h (around sizes seat) w)

-- what is put next of the message that is written
pub put_part : (out : Option OutgoingData) (o : OutgoingData) (author : Author) → out ≡ Some o → parts_by author o.parts ≡ o.parts → part (parts_by author (left_parts_of out)) (left_of out) (taken_of out) ≡ part o.parts o.left o.taken
put_part out o author e h = rw e (ap (λ (ps : List ℕ). part ps o.left o.taken) h)

pub asked_bytes : {outs outs' : List OutState} {ends ends' : List LinkEnd} {k : ℕ} {bytes piece : List ℕ} {put : Put} → bytes ≡ piece → AskedAt outs outs' ends ends' k (λ out out'. PutStep out out' bytes put) → AskedAt outs outs' ends ends' k (λ out out'. PutStep out out' piece put)
asked_bytes {outs} {outs'} {ends} {ends'} {k} {bytes} {piece} {put} e h = subst (λ (bs : List ℕ). AskedAt outs outs' ends ends' k (λ out out'. PutStep out out' bs put)) e h

-- ## A message that goes home

-- what follows doesn't depend on the message
abbrev BehindPut : Option First → Context → List ℕ → List ℕ → Point → Type 0
BehindPut (Some (OfTable (calls.OnMessage (calls.PutMessage q heading bytes)))) a other others p = after_word (point_program (record a { message = other; parts = others }) p) 0 ≡ after_word (point_program a p) 0
BehindPut first a other others p = Unit {0}

behind_look : (a : Context) (other others : List ℕ) (author : Author) (id : ℕ) (p : Point) → BehindPut (first_in (look_program a author id)) a other others p
behind_look a other others (authors.Send o) id p = tt
behind_look a other others (authors.Attempt t) id p = tt

behind_put : (a : Context) (other others : List ℕ) (p : Point) → BehindPut (first_in (point_program a p)) a other others p
behind_put a other others (points.Open g (opens.Claim i)) = tt
behind_put a other others (points.Seek aim (seeks.AddRef id)) = tt
behind_put a other others (points.Seek (aims.Hold o n) seeks.Load) = tt
behind_put a other others (points.Fail f fails.SetOdd) = tt
behind_put a other others (points.Release i t releases.SubRef) = tt
behind_put a other others (points.Send s sends.Look) = behind_look a other others s.author s.id.0 (points.Send s sends.Look)
behind_put a other others (points.Send s (sends.PutMessage q own)) = refl
behind_put a other others (points.Write w writes.PutHome) = tt
behind_put a other others (points.Call begins.LoadName) = tt
behind_put a other others (points.Attempt t socket attempts.AddRef) = tt
behind_put a other others (points.Post c after id_steps.Read) = tt
behind_put a other others (points.Decide c after (decides.Judge w)) = elim (ends_call (parts w.0) c.error.0) as (λ (ends : Bool). BehindPut (first_of (if ends then end_id (id_slot (id_of c.id)) (decided (id_of c.id) (after_program a after) (HasEnded a.asked.operation (code_of c.error.0))) else Aside (PutCall (id_slot (id_of c.id)) a.asked) (λ _. Round (Unlocks (id_slot (id_of c.id)) w.0 true) (unlocked (record { id = id_of c.id; attempt = (parts w.0).attempt + 1 }) (decided (id_of c.id) (after_program a after)))))) a other others (points.Decide c after (decides.Judge w))) [ true ↦ tt | false ↦ tt ]
behind_put a other others (points.Retry r (retries.Lock id_steps.Read)) = tt
behind_put a other others (points.Join o (joins.Wait id)) = tt
behind_put a other others _ = tt

pub message_put : (s sizes : Sizes) (seat : SeatData) (message' : Option ParcelData) (n : Next) (q : ℕ) (heading : Heading) (bytes : List ℕ) → s ≡ sizes → first_in (seat_program sizes seat) ≡ Some (OfTable (calls.OnMessage (calls.PutMessage q heading bytes))) →
    next_program (around s (record seat { message = message' })) n ≡ after_word (point_program (around s (record seat { message = message' })) seat.point) 0 → next_program (around s (record seat { message = message' })) n ≡ after_word (seat_program sizes seat) 0
message_put s sizes seat message' n q heading bytes e first h =
    let is : after_word (point_program (record (around sizes seat) { message = bytes_of message'; parts = parts_of message' }) seat.point) 0 ≡ after_word (seat_program sizes seat) 0 = subst (λ (o : Option First). BehindPut o (around sizes seat) (bytes_of message') (parts_of message') seat.point) first (behind_put (around sizes seat) (bytes_of message') (parts_of message') seat.point) in
    h ∙ (rw e is)
