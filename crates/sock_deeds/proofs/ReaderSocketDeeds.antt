-- What a reader does at the table of sockets: all by ids, and it sets failed only what it found noted for the `open` of its link.
use Rattle.std.proofs.Common.{◌≡◌, ℕ, zero, suc, Bool, true, if◌then◌else◌, List, [], ◌∷◌, map, Option, refl, sym, ap, ◌∙◌, subst}
use mathlib.Core.Option.{some, some-injective, some-ne-none}
use lib.ListN.{get_elem?}
use Rattle.sock_io.specs.declared.link.Out.{Ghosts}
use Rattle.sock_io.specs.LinkHalves.{OutState}
use Rattle.sock_words.specs.declared.outcome.Outcome.{Outcome}
use Rattle.sock_words.specs.declared.plain.Plan.{Plan}
use Rattle.sock_words.specs.declared.socket_id.SocketId.{SocketId}
use Rattle.sock_model.specs.ViewsOfSplitSeats.{newcomer}
use Rattle.seat_programs.specs.declared.task.Task.{Task}
use Rattle.rpc_client.specs.sock_table.specs.declared.finding.Noted.TheVariants as noted
use Rattle.sock_deeds.specs.Deeds.{Hand, Did, looks, takes, misses, sets, returns, DoneBy, Deed, Chain}
use Rattle.sock_deeds.specs.SocketTableRun.{IsById, IsReaderCode, DidRead, had_none, left_it, missed_it, set_it, did_in, ReaderSeat, early_of}
use Rattle.sock_deeds.proofs.ListPlaces.{map_there}

-- ## By ids

abbrev AllById : List Did → Type 0
AllById [] = Unit {0}
AllById (d ∷ ds) = IsById d × AllById ds

by_id_at : (ds : List Did) → AllById ds → (k : ℕ) (d : Did) → get_elem? ds k ≡ some d → IsById d
by_id_at [] all k d e = absurd (some-ne-none d (sym e))
by_id_at (x ∷ xs) all zero d e = subst IsById (some-injective x d e) all.0
by_id_at (x ∷ xs) all (suc k) d e = by_id_at xs all.1 k d e

all_by_id : (number : ℕ) (early : Bool) (dids : List Did) → DidRead number early dids → AllById dids
all_by_id number early dids (had_none none_ e) = subst AllById (sym e) (tt, tt)
all_by_id number early dids (left_it id none_ e) = subst AllById (sym e) (tt, tt)
all_by_id number early dids (missed_it id found is e) = subst AllById (sym e) (tt, (tt, tt))
all_by_id number early dids (set_it id code by is coded e) = subst AllById (sym e) (tt, (tt, (tt, (tt, tt))))

-- ## What is set failed

abbrev IsSet : Did → Type 0
IsSet (sets id code by) = Unit {0}
IsSet other = ⊥

id_in : Did → ℕ
id_in (sets id code by) = id
id_in other = 0

code_in : Did → ℕ
code_in (sets id code by) = code
code_in other = 0

-- early, with a reader's code, and by the id that was found first
pub record SetByFinding (number : ℕ) (early : Bool) (dids : List Did) (id code : ℕ) : Type 0 where
  pub is_early : early ≡ true
  pub coded : IsReaderCode code
  pub sock : SocketId
  pub same : sock.0 ≡ id
  pub first : get_elem? dids 0 ≡ some (looks number (noted.Id sock))

module _ (number : ℕ) (early : Bool) (id code : ℕ) (by : Outcome) where
  this : Did
  this = sets id code by

  no_set : (d : Did) (A : Type 0) → (IsSet d → ⊥) → d ≡ this → A
  unfolding this
  no_set d A ne e = absurd (ne (subst IsSet (sym e) tt))

  found_first : (dids : List Did) → DidRead number early dids → (k : ℕ) → get_elem? dids k ≡ some this → SetByFinding number early dids id code
  unfolding this id_in code_in
  found_first dids (had_none none_ e) k at = by_place k (ap (λ l. get_elem? l k) (sym e) ∙ at)
    where
      by_place : (k : ℕ) → get_elem? (looks number noted.Nothing ∷ []) k ≡ some this → SetByFinding number early dids id code
      by_place zero h = no_set _ _ (λ x. x) (some-injective _ _ h)
      by_place (suc k) h = absurd (some-ne-none this (sym h))
  found_first dids (left_it sock none_ e) k at = by_place k (ap (λ l. get_elem? l k) (sym e) ∙ at)
    where
      by_place : (k : ℕ) → get_elem? (looks number (noted.Id sock) ∷ []) k ≡ some this → SetByFinding number early dids id code
      by_place zero h = no_set _ _ (λ x. x) (some-injective _ _ h)
      by_place (suc k) h = absurd (some-ne-none this (sym h))
  found_first dids (missed_it sock found is e) k at = by_place k (ap (λ l. get_elem? l k) (sym e) ∙ at)
    where
      by_place : (k : ℕ) → get_elem? (looks number (noted.Id sock) ∷ misses sock.0 found ∷ []) k ≡ some this → SetByFinding number early dids id code
      by_place zero h = no_set _ _ (λ x. x) (some-injective _ _ h)
      by_place (suc zero) h = no_set _ _ (λ x. x) (some-injective _ _ h)
      by_place (suc (suc k)) h = absurd (some-ne-none this (sym h))
  found_first dids (set_it sock c o is coded e) k at = by_place k (ap (λ l. get_elem? l k) (sym e) ∙ at)
    where
      by_place : (k : ℕ) → get_elem? (looks number (noted.Id sock) ∷ takes sock.0 ∷ sets sock.0 c o ∷ returns sock.0 ∷ []) k ≡ some this → SetByFinding number early dids id code
      by_place zero h = no_set _ _ (λ x. x) (some-injective _ _ h)
      by_place (suc zero) h = no_set _ _ (λ x. x) (some-injective _ _ h)
      by_place (suc (suc zero)) h =
          let same = some-injective (sets sock.0 c o) this h in
          record { is_early = is; coded = subst IsReaderCode (ap code_in same) coded; sock = sock; same = ap id_in same; first = ap (λ l. get_elem? l 0) e }
      by_place (suc (suc (suc zero))) h = no_set _ _ (λ x. x) (some-injective _ _ h)
      by_place (suc (suc (suc (suc k)))) h = absurd (some-ne-none this (sym h))

-- ## What is held by a name

module _ {O : Type 0} (g : Ghosts O) (state : O → OutState) (p : Plan) where
  id_held : (d : Did) (s t : Hand) → IsById d → DoneBy g state p d s t → t.held ≡ s.held
  id_held (looks number n) s t is b = b.1
  id_held (takes id) s t is b = b.2
  id_held (misses id found) s t is b = b.1
  id_held (sets id code by) s t is b = b.1
  id_held (returns id) s t is b = b.1
  id_held _ s t is b = elim is [ ]

  ids_held : (ds : List (Deed g state p)) (s t : Hand) → Chain g state p ds s t → ((k : ℕ) (d : Deed g state p) → get_elem? ds k ≡ some d → IsById d.did) → t.held ≡ s.held
  ids_held [] s t c are = ap (λ (h : Hand). h.held) c
  ids_held (d ∷ ds) s t c are = ids_held ds d.after t c.1 (λ k e at. are (suc k) e at) ∙ (id_held d.did d.before d.after (are 0 d refl) d.done ∙ ap (λ (h : Hand). h.held) c.0)

module _ {O : Type 0} {g : Ghosts O} {state : O → OutState} {p : Plan} {clients : List (List Task)} {outcomes : List (Option Outcome)} (r : ReaderSeat g state p clients outcomes) where
  abbrev pub dids_of : List Did
  dids_of = map did_in r.sits.deeds

  pub read_by_ids : (k : ℕ) (d : Deed g state p) → get_elem? r.sits.deeds k ≡ some d → IsById d.did
  read_by_ids k d at = by_id_at dids_of (all_by_id r.number r.early dids_of r.did) k d.did (map_there did_in r.sits.deeds k d at)

  pub read_sets : (k : ℕ) (d : Deed g state p) (id code : ℕ) (by : Outcome) → get_elem? r.sits.deeds k ≡ some d → d.did ≡ sets id code by → SetByFinding r.number r.early dids_of id code
  unfolding this
  read_sets k d id code by at is = found_first r.number r.early id code by dids_of r.did k (map_there did_in r.sits.deeds k d at ∙ ap some is)

  -- it keeps nothing by a name
  pub read_held : r.sits.ended.held ≡ []
  read_held = ids_held g state p r.sits.deeds record { view = newcomer p [] r.sits.spare; held = [] } r.sits.ended r.sits.chain read_by_ids

  -- its link is told, where its reading ended early
  pub early_there : r.early ≡ true → get_elem? (early_of r) 0 ≡ some r.link
  early_there e = ap (λ (b : Bool). get_elem? (if b then r.link ∷ [] else []) 0) e
