-- Waiting for the sockets of names, and a client behind it.
use Rattle.std.proofs.Common.{◌≡◌, ℕ, ◌+◌, ◌<◌, List, [], ◌∷◌, ◌++◌, Some, length, take, get_or, refl, sym, ap, ◌∙◌, subst}
use Rattle.std.proofs.lemmas.List.{take_more}
use Rattle.atomic_table.specs.Seated.{TableId}
use Rattle.atomic_table.specs.declared.shared.Seat.{Seat}
use Rattle.sock_io.specs.declared.link.Out.{Ghosts}
use Rattle.sock_words.specs.declared.plain.Plan.{Plan}
use Rattle.sock_words.specs.declared.socket_id.SocketId.{SocketId}
use Rattle.sock_model.specs.declared.view.View.{View}
use Rattle.sock_rule.specs.declared.homes.SockHome.{SockHome}
use Rattle.sock_table.specs.NamesStoredAndFound.{Found}
use Rattle.call_client.specs.rpc_client.specs.SeatBetweenOperations.{SameRefs, AtRest}
use Rattle.call_client.specs.rpc_client.proofs.CountedReferences.{refs_then, refs_none, finds_refs, holder_same}
use Rattle.call_client.specs.declared.caller.Caller.{Caller}
use Rattle.call_client.specs.ClientBetweenOperations.{MayGo}
use Rattle.call_run.specs.Threads.{FoundEach}

-- one more was found
pub found_more : (p : Plan) (ns : List ℕ) (n : ℕ) (v u w : View) (id : SocketId) → FoundEach p ns v u → Found p n (Some id) u w → FoundEach p (ns ++ n ∷ []) v w
found_more p [] n v u w id a f = (id, w, subst (λ (x : View). Found p n (Some id) x w) a f, refl)
found_more p (m ∷ ns) n v u w id a f = (a.0, a.1, a.2, found_more p ns n a.1 u w id a.3 f)

-- one more of a list
pub found_next : (p : Plan) (names : List ℕ) (i : ℕ) (v u w : View) (id : SocketId) → i < length names → FoundEach p (take i names) v u → Found p (get_or names i 0) (Some id) u w → FoundEach p (take (i + 1) names) v w
found_next p names i v u w id lt a f = subst (λ ns. FoundEach p ns v w) (sym (take_more names i 0 lt)) (found_more p (take i names) (get_or names i 0) v u w id a f)

-- the references are as they were
pub each_refs : (p : Plan) (ns : List ℕ) (v w : View) → FoundEach p ns v w → SameRefs v w
each_refs p [] v w a = refs_none v w (ap (λ (y : View). y.marks) a)
each_refs p (n ∷ ns) v w a = refs_then v a.1 w (finds_refs _ a.0.0 v a.1 a.2.1) (each_refs p ns a.1 w a.3)

-- and so are the lists of accepted messages
pub each_lists : (p : Plan) (ns : List ℕ) (v w : View) → FoundEach p ns v w → w.lists ≡ v.lists
each_lists p [] v w a = ap (λ (y : View). y.lists) a
each_lists p (n ∷ ns) v w a = each_lists p ns a.1 w a.3 ∙ ap (λ (y : View). y.lists) a.2.1.view

-- a client that only waited may go
pub waited_go : {O : Type 0} {g : Ghosts O} (z : TableId) (p : Plan) (y : TableId) (ns : List ℕ) (c : Caller O g) (s : Seat (SockHome O g) View) → MayGo z p y 0 c → AtRest z p c.seat s → FoundEach p ns c.seat.me.0 s.me.0 → MayGo z p y 0 (record c { seat = s })
waited_go z p y ns c s go rest found = record {
  idle = rest.idle;
  holder = holder_same p c.held.items c.seat.me.0 go.holder s.me.0 (each_refs p ns c.seat.me.0 s.me.0 found);
  passes = go.passes;
  few = go.few;
  own = record { made = go.own.made; taken_in = go.own.taken_in; lists = each_lists p ns c.seat.me.0 s.me.0 found ∙ go.own.lists; few = go.own.few };
  ids = go.ids;
}
