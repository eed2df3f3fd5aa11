-- The halves of links, apart and together again.
use Rattle.std.specs.Prelude.{◌≡◌, ℕ, List, [], ◌∷◌, slice_get, Some, IfSome}
use Rattle.sock_io.specs.declared.link.Ends.{Ends}
use Rattle.sock_io.specs.LinkHalves.{OutState}
use Rattle.brpc_model.specs.PlaceWords.{took_at}
use Rattle.call_run.specs.sock_open.specs.SocketTableOpening.{IsRoom}
use Rattle.std.specs.VecDeque.{deque_len, deque_capacity}
use Rattle.call_run.specs.link_crew.specs.declared.beside.Rest.{Rest}
use Rattle.script_parts.specs.declared.halves.Halves.{Halves}

abbrev pub rest_of : {O I P : Type 0} → Ends O I P → Rest I P
rest_of e = record { inn = e.inn; peer = e.peer }

-- each with what belongs to it, as many as there are of both
abbrev pub joined : {O I P : Type 0} → List O → List (Rest I P) → List (Ends O I P)
joined [] rs = []
joined (o ∷ os) [] = []
joined (o ∷ os) (r ∷ rs) = (record { out = o; inn = r.inn; peer = r.peer }) ∷ joined os rs

-- nothing is there yet, and there is room for so many
pub record HasRoomFor {O I P : Type 0} (count : ℕ) (h : Halves O I P) : Type 0 where
  pub outs : IsRoom count h.outs
  pub rests : (h.rests.items ≡ []) × (deque_len h.rests ≡ 0) × (deque_capacity h.rests ≡ count)
  pub back : IsRoom count h.back

-- what is said of each writing half that tells what it took is what it tells
abbrev pub AreTaken : {O : Type 0} → (O → OutState) → List O → List (List ℕ) → Type 0
AreTaken {O} state outs took = (k : ℕ) (o : O) → slice_get outs k ≡ Some o → IfSome (state o).took (λ bytes. took_at took k ≡ bytes)
