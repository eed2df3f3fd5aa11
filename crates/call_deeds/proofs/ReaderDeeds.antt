-- A reader that ran on a thread of its own, as a reader's seat of the sockets with its deeds.
use Rattle.std.proofs.Common.{◌≡◌, ℕ, Bool, true, false, inl, inr, Option, Some, None, List, [], ◌∷◌, map, refl, ap, subst}
use Rattle.atomic_table.specs.declared.shared.Seat.{Seat}
use Rattle.sock_io.specs.declared.link.Out.{Ghosts}
use Rattle.sock_io.specs.LinkHalves.{OutState, InState}
use Rattle.sock_words.specs.declared.outcome.Outcome.{Outcome}
use Rattle.sock_words.specs.declared.plain.Plan.{Plan}
use Rattle.sock_words.specs.declared.socket_id.SocketId.{SocketId}
use Rattle.sock_model.specs.declared.view.View.{View}
use Rattle.sock_model.specs.ViewsOfSplitSeats.{newcomer}
use Rattle.corr_core.specs.declared.marks.Plan as id_plan
use Rattle.seat_programs.specs.declared.task.Op.TheVariants as ops
use Rattle.seat_programs.specs.declared.task.Task.{Task}
use Rattle.call_places.specs.Below.SockRule.SockHome.{SockHome}
use Rattle.call_places.specs.Below.SockTable.NotedVariants as noted
use Rattle.call_places.specs.Below.SockTable.NamesStoredAndFound.{NotedAs}
use Rattle.call_places.specs.Below.RpcReader.ReaderBooks.{Books}
use Rattle.call_places.specs.Below.RpcReader.ReaderSocketFailing.{OpenedBy, SetOnce}
use Rattle.call_places.specs.Below.RpcReader.LinkReading.{code_of}
use Rattle.call_places.specs.Below.RpcReader.ReaderRunFromOpen.{fails, is_starved, FailedIf, ReadIf, RanBy}
use Rattle.call_places.specs.Below.RpcReader.How.{How}
use Rattle.call_places.specs.Below.RpcReader.HowVariants as how
use Rattle.call_places.specs.sock_deeds.specs.Deeds.{Did, looks, takes, misses, sets, returns, DoneBy, Deed, Chain}
use Rattle.call_places.specs.sock_deeds.specs.SocketTableRun.{IsOperation, IsReaderCode, DidRead, had_none, left_it, missed_it, set_it, did_in, ReaderSeat}
use Rattle.call_places.specs.sock_deeds.proofs.DeedsByIdsAlone.{still_none_later}
use Rattle.call_deeds.proofs.DeedsBesideOperations.{bare}

-- where memory was wanting nowhere, its code is that of an end, or of bytes that are no response
coded : (h : How) → is_starved h ≡ false → IsReaderCode (code_of h)
coded how.Fault calm = inr refl
coded how.NoMemory calm = absurd (cc)
coded _ calm = inl refl

module _ {O : Type 0} (g : Ghosts O) (state : O → OutState) (p : Plan) (operation : ℕ) where
  -- all that it did, in the form of a reader's deeds
  record ReadDeeds (early : Bool) (v w : View) : Type 0 where
    pub deeds : List (Deed g state p)
    pub chain : Chain g state p deeds (bare g state p v) (bare g state p w)
    pub did : DidRead operation early (map did_in deeds)

  abbrev did_one : (d : Did) (v w : View) → DoneBy g state p d (bare g state p v) (bare g state p w) → Deed g state p
  did_one d v w b = record { did = d; before = bare g state p v; after = bare g state p w; done = b }

  set_deeds : (id : SocketId) (code : ℕ) (v u w : View) → NotedAs p operation (noted.Id id) v u → SetOnce id.0 code u w → IsReaderCode code → ReadDeeds true v w
  set_deeds id code v u w found s is = record {
    deeds = did_one (looks operation (noted.Id id)) v u (found, refl) ∷ did_one (takes id.0) u s.has (s.live, s.held, refl)
        ∷ did_one (sets id.0 code s.by) s.has s.set (s.set_by, refl, still_none_later id.0 u s.has s.held s.live) ∷ did_one (returns id.0) s.set w (s.returned, refl) ∷ [];
    chain = (refl, (refl, (refl, (refl, refl))));
    did = set_it id code s.by refl is refl;
  }

  failed_deeds : (early : Bool) (id : SocketId) (code : ℕ) (v u w : View) → NotedAs p operation (noted.Id id) v u → FailedIf early id.0 code u w → IsReaderCode code → ReadDeeds early v w
  failed_deeds false id code v u w found same is = record { deeds = did_one (looks operation (noted.Id id)) v u (found, refl) ∷ []; chain = (refl, ap (bare g state p) same); did = left_it id refl refl }
  failed_deeds true id code v u w found failed is = elim failed [
    | inl gone ↦ record { deeds = did_one (looks operation (noted.Id id)) v u (found, refl) ∷ did_one (misses id.0 gone.0) u w (gone.1, refl) ∷ []; chain = (refl, (refl, refl)); did = missed_it id gone.0 refl refl }
    | inr s ↦ set_deeds id code v u w found s is
  ]

  module _ (q : id_plan.Plan) (link : ℕ) (calls : List ℕ) (ending short : Bool) (s t : InState) where
    -- whether the reading of its link ended early, so that its socket had to be set failed; a link without a socket isn't read
    abbrev pub early_if : (id : Option SocketId) (v w : View) (b b' : Books) → ReadIf q link calls ending short s t id v w b b' → Bool
    early_if None v w b b' r = false
    early_if (Some id) v w b b' r = fails r.how

    read_deeds : (id : Option SocketId) (v u w : View) (b b' : Books) → OpenedBy p operation id v u → (r : ReadIf q link calls ending short s t id u w b b') → short ≡ false → ReadDeeds (early_if id u w b b' r) v w
    read_deeds None v u w b b' none_ r calm = record { deeds = did_one (looks operation noted.Nothing) v u (none_, refl) ∷ []; chain = (refl, ap (bare g state p) r.0); did = had_none refl refl }
    read_deeds (Some id) v u w b b' found r calm = failed_deeds (fails r.how) id (code_of r.how) v u w found r.failed (coded r.how (r.calm calm).1)

    abbrev pub ended_early : (v w : View) (b b' : Books) → RanBy q link calls ending short s t p operation v w b b' → Bool
    ended_early v w b b' ran = early_if ran.id ran.noted w b b' ran.read

    -- a reader that began with a new seat
    pub reader_seated : (clients : List (List Task)) (outcomes : List (Option Outcome)) (client name : ℕ) → IsOperation clients outcomes client operation (ops.Open name link)
        → (spare : ℕ) (v w : View) (b b' : Books) → v ≡ newcomer p [] spare → (ran : RanBy q link calls ending short s t p operation v w b b') → short ≡ false → (seat : Seat (SockHome O g) View) → seat.me.0 ≡ w
        → (r : ReaderSeat g state p clients outcomes) × (r.sits.seat ≡ seat) × (r.link ≡ link) × (r.number ≡ operation) × (r.early ≡ ended_early v w b b' ran)
    reader_seated clients outcomes client name asked spare v w b b' began ran calm seat left =
        let d = read_deeds ran.id v ran.noted w b b' ran.opened ran.read calm in (
          record {
            sits = record { spare = spare; deeds = d.deeds; ended = bare g state p w; chain = subst (λ (x : View). Chain g state p d.deeds (bare g state p x) (bare g state p w)) began d.chain; seat = seat; left = left };
            link = link;
            number = operation;
            client = client;
            name = name;
            asked = asked;
            early = ended_early v w b b' ran;
            did = d.did;
          },
          refl,
          refl,
          refl,
          refl,
        )
