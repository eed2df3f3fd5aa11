-- Why an attempt came to nothing, by what its client saw of the sockets: its socket's life was dead, each request was taken, or no socket stood under the name.
use Rattle.std.proofs.Common.{◌≡◌, ℕ, ◌+◌, ◌<◌, List, [], ◌∷◌, Some, None, zero-le, refl, sym, ap, arith}
use Rattle.std.specs.Prelude.{Option}
use Rattle.std.proofs.lemmas.Option.{none-some, same_Some}
use lib.ListN.{get_elem?}
use Rattle.sock_io.specs.declared.link.Out.{Ghosts}
use Rattle.sock_io.specs.LinkHalves.{OutState}
use Rattle.sock_words.specs.ErrorCodes.{EFAILEDSOCKET, EREQUESTS}
use Rattle.sock_words.specs.PackedWords.{socket_id_slot, socket_id_version, vref_version}
use Rattle.sock_words.specs.declared.outcome.Outcome.{Outcome}
use Rattle.sock_words.specs.declared.plain.Plan.{Plan}
use Rattle.sock_words.specs.declared.socket_id.SocketId.{SocketId}
use Rattle.sock_model.specs.declared.marks.Mark.{Mark}
use Rattle.sock_model.specs.declared.marks.Mark.TheVariants.{Saw}
use Rattle.sock_model.specs.declared.view.View.{View}
use Rattle.sock_model.specs.SocketTableLayout.{name_index, request_index}
use Rattle.sock_model.specs.SlotRows.{marks_of}
use Rattle.sock_model.specs.MarkWeights.{is_known, is_saw, only}
use Rattle.attempts_told.specs.call_whys.specs.call_places.specs.outcome_stories.specs.program_walks.specs.slot_steps.proofs.RuleNumbers.{only-same}
use Rattle.attempts_told.specs.Below.SockRule.MarksComeAndGo.{Became}
use Rattle.attempts_told.specs.Below.SockRule.Letter.{Letter}
use Rattle.attempts_told.specs.Below.SockTable.NamesStoredAndFound.{HasSeen, Found}
use Rattle.seat_programs.specs.declared.task.Op.{Op}
use Rattle.seat_programs.specs.declared.task.Op.TheVariants as ops
use Rattle.corr_core.specs.declared.marks.Plan as id_plan
use Rattle.sock_message.specs.Asked.{Asked, name_of}
use Rattle.attempts_told.specs.Below.WriteChain.Accepting.{full_found}
use Rattle.attempts_told.specs.Below.WriteChain.Refused.{Refused}
use Rattle.attempts_told.specs.Below.WriteChain.RefusedVariants as refusal
use Rattle.attempts_told.specs.Below.CallAttempts.ClientAtBothTables.{Both}
use Rattle.attempts_told.specs.Below.CallAttempts.Attempting.{code_for, CameBack, DeliveredBy, went_out, came_back, AttemptedBy, nowhere, over_link}
use Rattle.attempts_told.specs.Below.CallAttempts.AttemptLetters.{letter_for}
use Rattle.attempts_told.specs.Below.CallAttempts.WaitingRetries.{IsStray, WentTo, stray, unopened, to_socket, had_ended, overtaken, went_again}
use Rattle.attempts_told.specs.Below.CallClient.ClientBetweenOperations.{Stand, both_of, Acted}
use Rattle.attempts_told.specs.call_whys.specs.call_places.specs.DeedsOfCallClient.{Deed, operates, retries}
use Rattle.attempts_told.specs.call_whys.specs.call_places.specs.sock_deeds.proofs.GrowingSocketNotes.{Grew, HasFound, grew_then, added_grew, returned_grew}
use Rattle.failed_reasons.specs.Missed.{delivery_missed, attempt_missed, went_missed, acted_missed, missed_in, attempt_of, socks_behind}
use Rattle.sock_words.specs.Totals.{total}

-- ## What was seen

-- an id stood under the name, and a later version of its slot was seen
pub record SawDead (p : Plan) (n : ℕ) (v : View) : Type 0 where
  pub id : SocketId
  pub inside : socket_id_slot id.0 < p.slots
  pub found : HasFound record { place = name_index p n; word = id.0 + 1 } v
  pub known : 0 < marks_of (is_known (socket_id_version id.0)) (socket_id_slot id.0) v
  pub later : ℕ
  pub saw : 0 < marks_of (is_saw later) (socket_id_slot id.0) v
  pub less : socket_id_version id.0 < later

-- each request was found taken
abbrev pub SawFull : Plan → View → Type 0
SawFull p v = (r : ℕ) → r < p.requests → HasSeen (request_index p r) v

pub dead_later : (p : Plan) (n : ℕ) (v w : View) → Grew v w → SawDead p n v → SawDead p n w
dead_later p n v w g d =
    let i = socket_id_slot d.id.0 in let a = g.marks (is_known (socket_id_version d.id.0)) (λ x. refl) i in let b = g.marks (is_saw d.later) (λ x. refl) i in let k = d.known in let s = d.saw in
    record { id = d.id; inside = d.inside; found = g.finds record { place = name_index p n; word = d.id.0 + 1 } d.found; known = omega (arith, a, k); later = d.later; saw = omega (arith, b, s); less = d.less }

pub full_later : (p : Plan) (v w : View) → Grew v w → SawFull p v → SawFull p w
full_later p v w g f r low = g.seen (request_index p r) (f r low)

-- what was added is there
pub saw_there : (i w : ℕ) (v u : View) (others : List Mark) → Became i v u (Saw w ∷ others) [] → 0 < marks_of (is_saw w) i u
saw_there i w v u others b =
    let e : marks_of (is_saw w) i u + 0 ≡ marks_of (is_saw w) i v + (only w w + total (is_saw w) others) = b.here (is_saw w) in
    let q = only-same w in omega (arith, e, q)

-- of a socket that was found under the name, in a later view that saw a later version
found_dead : (p : Plan) (n : ℕ) (socket : SocketId) (v u w : View) → Found p n (Some socket) v u → Grew u w → (later : ℕ) → 0 < marks_of (is_saw later) (socket_id_slot socket.0) w → socket_id_version socket.0 < later → SawDead p n w
found_dead p n socket v u w f g later saw less =
    let i = socket_id_slot socket.0 in let know = f.0 in let k = g.marks (is_known (socket_id_version socket.0)) (λ x. refl) i in let y = know.known in
    record {
      id = socket;
      inside = know.inside;
      found = g.finds record { place = name_index p n; word = socket.0 + 1 } (0, ap (λ (z : View). get_elem? z.finds 0) f.1.view);
      known = omega (arith, k, y);
      later = later;
      saw = saw;
      less = less;
    }

-- ## Why

module _ (p : Plan) (q : id_plan.Plan) where
  pub data WhyMissed (name operation code : ℕ) (v : View) : Type 0 where
    was_dead : code ≡ EFAILEDSOCKET → SawDead p name v → WhyMissed name operation code v
    was_full : code ≡ EREQUESTS → SawFull p v → WhyMissed name operation code v
    was_unopened : code ≡ EFAILEDSOCKET → (u : View) → Found p name None u v → WhyMissed name operation code v
    was_stray : IsStray p q name operation → WhyMissed name operation code v

module _ {O : Type 0} (state : O → OutState) (p : Plan) (q : id_plan.Plan) (code : ℕ) where
  same_code : (k : ℕ) → Some k ≡ Some code → code ≡ k
  same_code k e = sym (same_Some k code e)

  -- a frame that came back
  came_why : (name operation : ℕ) (socket : SocketId) (msg : Letter) (v u : View) (by : Refused) (s t : Both) → Found p name (Some socket) v u → Grew u s.socks → CameBack state p q socket msg by s t → Some (code_for by) ≡ Some code → WhyMissed p q name operation code t.socks
  came_why name operation socket msg v u (refusal.Failed sock m found) s t f grew c is =
      let b = c.refused_by in let i = socket_id_slot socket.0 in
      let back = returned_grew socket.0 c.refused_at t.socks c.returned in
      let all = grew_then u s.socks t.socks grew (grew_then s.socks c.refused_at t.socks (added_grew i s.socks c.refused_at _ b.3) back) in
      let saw = saw_there i (vref_version found.0) s.socks c.refused_at [] b.3 in let still = back.marks (is_saw (vref_version found.0)) (λ x. refl) i in let version = b.2 in
      was_dead (same_code EFAILEDSOCKET is) (found_dead p name socket v u t.socks f all (vref_version found.0) (omega (arith, saw, still)) (omega (arith, version)))
  came_why name operation socket msg v u (refusal.Full sock m) s t f grew c is =
      let back = returned_grew socket.0 c.refused_at t.socks c.returned in was_full (same_code EREQUESTS is) (λ r low. back.seen (request_index p r) (full_found p _ c.refused_at c.refused_by.2 r low))

  delivery_why : (name operation : ℕ) (socket : SocketId) (msg : Letter) (v u : View) (s t : Both) → Found p name (Some socket) v u → Grew u s.socks → (d : DeliveredBy state p q socket msg s t) → delivery_missed state p q socket msg s t d ≡ Some code → WhyMissed p q name operation code t.socks
  delivery_why name operation socket msg v u s t f grew (went_out w) is = absurd (none-some code is)
  delivery_why name operation socket msg v u s t f grew (came_back by c) is = came_why name operation socket msg v u by s t f grew c is

  attempt_why : (name operation : ℕ) (socket : SocketId) (msg : Letter) (v : View) (s t : Both) → Found p name (Some socket) v s.socks → (a : AttemptedBy state p q socket msg s t) → attempt_missed state p q socket msg s t a ≡ Some code → WhyMissed p q name operation code t.socks
  attempt_why name operation socket msg v s t f (nowhere n) is =
      let i = socket_id_slot socket.0 in let g = n.gone in
      was_dead (same_code EFAILEDSOCKET is) (found_dead p name socket v s.socks t.socks f (added_grew i s.socks t.socks _ g.became) (vref_version n.found.0) (saw_there i (vref_version n.found.0) s.socks t.socks g.notes g.became) g.later)
  attempt_why name operation socket msg v s t f (over_link u l d) is =
      let i = socket_id_slot socket.0 in
      let grew = grew_then s.socks l.has u.socks (added_grew i s.socks l.has _ l.held) (added_grew i l.has u.socks _ l.link_of.became) in delivery_why name operation socket msg v s.socks u t f grew d is

  went_why : (name : ℕ) (msg : Letter) (s t : Both) (w : WentTo state p q name msg s t) → went_missed state p q name msg s t w ≡ Some code → WhyMissed p q name msg.label.operation code t.socks
  went_why name msg s t (stray a same c) is = was_stray a
  went_why name msg s t (unopened found c) is = was_unopened (same_code EFAILEDSOCKET is) s.socks found
  went_why name msg s t (to_socket socket u found e a) is = attempt_why name msg.label.operation socket msg s.socks u t found a is

  -- what was asked, and why its attempt n came to nothing
  pub record IsMissedFor (P : Asked → Type 0) (n : ℕ) (v : View) : Type 0 where
    pub asked : Asked
    pub is : P asked
    pub why : WhyMissed p q (name_of asked n) asked.operation code v

  acted_why : {g : Ghosts O} (number : ℕ) (op : Op) (by : Option Outcome) (s t : Stand g) (a : Acted state p q number op by s t) → acted_missed state p q number op by s t a ≡ Some code → IsMissedFor (λ asked. op ≡ ops.Call asked) 0 t.me.0
  acted_why number (ops.Call asked) None s t a is = let b = a.1 in record { asked = asked; is = refl; why = attempt_why (name_of asked 0) asked.operation b.socket (letter_for asked a.0 0 zero-le) s.me.0 b.at (both_of t) b.made_for.found b.attempted is }
  acted_why number (ops.Call asked) (Some by) s t a is = absurd (none-some code is)
  acted_why number _ by s t a is = absurd (none-some code is)

-- this was asked by the call of an attempt
abbrev pub IsAskedIn : {O : Type 0} {g : Ghosts O} {state : O → OutState} {p : Plan} {q : id_plan.Plan} → Deed g state p q → Asked → Type 0
IsAskedIn (operates x by s t a) asked = x.op ≡ ops.Call asked
IsAskedIn (retries r s t (had_ended h)) asked = ⊥
IsAskedIn (retries r s t (overtaken k u l o)) asked = ⊥
IsAskedIn (retries r s t (went_again k u l w)) asked = k.content ≡ asked

pub deed_why : {O : Type 0} {g : Ghosts O} {state : O → OutState} {p : Plan} {q : id_plan.Plan} (d : Deed g state p q) (code : ℕ) → missed_in d ≡ Some code → IsMissedFor state p q code (IsAskedIn d) (attempt_of d) (socks_behind d)
deed_why {state = state} {p = p} {q = q} (operates x by s t a) code is = acted_why state p q code x.number x.op by s t a is
deed_why {state = state} {p = p} {q = q} (retries r s t (had_ended h)) code is = absurd (none-some code is)
deed_why {state = state} {p = p} {q = q} (retries r s t (overtaken k u l o)) code is = absurd (none-some code is)
deed_why {state = state} {p = p} {q = q} (retries r s t (went_again k u l w)) code is = record { asked = k.content; is = refl; why = went_why state p q code (name_of k.content r.attempt) (letter_for k.content r.id r.attempt r.low) _ t w.went is }
