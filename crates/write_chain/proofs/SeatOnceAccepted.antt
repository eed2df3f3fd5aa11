-- What a seat has once its message was accepted.
use Rattle.std.proofs.Common.{◌≡◌, ℕ, ◌<◌, List, [], ◌∷◌, refl, sym, ◌∙◌, subst, arith}
use Rattle.atomic_table.specs.Table.{Me}
use Rattle.sock_io.specs.declared.link.Out.{Ghosts}
use Rattle.sock_words.specs.declared.plain.Plan.{Plan}
use Rattle.sock_words.specs.PackedWords.{socket_id_version, socket_id_slot}
use Rattle.sock_model.specs.declared.chain.Heading.{Heading}
use Rattle.sock_model.specs.declared.chain.Stage.TheVariants.{Writes}
use Rattle.sock_model.specs.declared.marks.Mark.TheVariants.{Saw}
use Rattle.sock_model.specs.declared.view.View.{View}
use Rattle.sock_model.specs.MarkWeights.{is_ref, is_hold, is_met}
use Rattle.sock_model.specs.SlotRows.{marks_of}
use Rattle.sock_open.specs.slot_steps.proofs.RuleNumbers.{pair-same}
use Rattle.sock_rule.specs.declared.homes.SockHome.{SockHome}
use Rattle.sock_table.specs.ReferenceCalls.{IsBetween, Rests}
use Rattle.sock_table.specs.ReferenceAnswers.{Holds}
use Rattle.sock_table.specs.declared.refs.SockRef.{SockRef}
use Rattle.sock_table.proofs.QuietBetweenCalls.{between, rests_between}
use Rattle.write_chain.specs.declared.entry.Started.{Started}
use Rattle.write_chain.specs.declared.entry.Started.TheVariants as started
use Rattle.write_chain.specs.SendingIntoChain.{Accepted, StartedBy}
use Rattle.write_chain.specs.WritingRightInHand.{Stands, Begins}

module _ (p : Plan) (id : ℕ) (heading : Heading) (bytes : List ℕ) (v w : View) (b : IsBetween p v) (a : Accepted (Saw (socket_id_version id) ∷ []) p id heading bytes v w) where
  still : IsBetween p (record v { marks = w.marks })
  still = between p (socket_id_slot id) v (record v { marks = w.marks }) _ _ b a.marks record { claimed = refl; probe = refl; coding = refl; zeros = λ x. refl }

  accepted_rests : Rests p w
  accepted_rests = let s = still in record { unclaimed = s.unclaimed; unprobed = s.unprobed; uncoding = s.uncoding; no_zero = s.no_zero; no_rights = refl; empty = a.hands ∙ b.empty; no_passes = a.passes ∙ b.no_passes }

  accepted_holds : Holds p v id → Holds p w id
  accepted_holds h = record { inside = h.inside; held = (let x = a.marks.here (is_hold (socket_id_version id)) in let y = h.held in omega arith) }

  accepted_met : 0 < marks_of (is_met (socket_id_version id) a.entry.link) (socket_id_slot id) w
  accepted_met = let x = a.marks.here (is_met (socket_id_version id) a.entry.link) in let y = pair-same (socket_id_version id) a.entry.link in omega arith

  accepted_room : marks_of is_ref (socket_id_slot id) v < 65540 → marks_of is_ref (socket_id_slot id) w < 65540
  accepted_room r = let x = a.marks.here is_ref in omega arith

pub begins : {O : Type 0} {g : Ghosts O} (p : Plan) (sock : SockRef) (heading : Heading) (bytes : List ℕ) (s : Started O g) (v : View) (n : Me (SockHome O g) View) → IsBetween p v → Holds p v sock.id.0 → marks_of is_ref (socket_id_slot sock.id.0) v < 65540
    → StartedBy p sock heading bytes s v n.0 → n.1 ≡ [] → Begins p sock s n
begins p sock heading bytes (started.Queued r) v n b h room (is, a, rights) slots = (
  is,
  record {
    between = rests_between p n.0 rights (accepted_rests p sock.id.0 heading bytes v n.0 b a);
    holds = accepted_holds p sock.id.0 heading bytes v n.0 b a h;
    slots = slots;
  },
)
begins {O} {g} p sock heading bytes (started.Right r) v n b h room (is, first, a, x, rights, f, tk) slots = let stands : Stands p sock.id.0 r.last.0 (Writes r.last.0) a.entry.link n = record {
  right_is = x;
  writer = record {
    one = rights;
    last_is = f.last_is;
    last_ticket = tk;
    link_is = f.link_is;
    holds = record { inside = h.inside; held = (accepted_holds p sock.id.0 heading bytes v n.0 b a h).held; met = accepted_met p sock.id.0 heading bytes v n.0 b a };
    rests = accepted_rests p sock.id.0 heading bytes v n.0 b a;
    room = accepted_room p sock.id.0 heading bytes v n.0 b a room;
  };
  stage_is = f.stage;
  home = f.link_home;
  idle = f.idle;
  slots = slots;
} in (is, record { first = first; link = a.entry.link; stands = subst (λ (y : SockRef). Stands p y.id.0 r.last.0 (Writes r.last.0) a.entry.link n) (sym is) stands })
