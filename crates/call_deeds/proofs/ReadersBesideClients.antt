-- The readers of links that are read beside the clients, as readers' seats in a run of deeds.
use Rattle.std.proofs.Common.{◌≡◌, ℕ, suc, ◌+◌, false, Bool, if◌then◌else◌, Option, List, [], ◌∷◌, ◌++◌, map, flat_map, refl, sym, subst, arith}
use mathlib.Core.Option.{some}
use lib.ListN.{get_elem?}
use Rattle.sock_io.specs.declared.link.Out.{Ghosts}
use Rattle.sock_io.specs.LinkHalves.{OutState}
use Rattle.sock_words.specs.declared.outcome.Outcome.{Outcome}
use Rattle.sock_words.specs.declared.plain.Plan.{Plan}
use Rattle.sock_model.specs.ViewsOfSplitSeats.{newcomer}
use Rattle.corr_core.specs.declared.marks.Plan as id_plan
use Rattle.seat_programs.specs.declared.task.Op.TheVariants as ops
use Rattle.seat_programs.specs.declared.task.Task.{Task}
use Rattle.call_places.specs.Below.CallRun.ReadersOfLinks.{LinkReader, nothing_read, IsReader, AreReaders}
use Rattle.call_places.specs.sock_deeds.specs.SocketTableRun.{IsOperation, seat_of, ReaderSeat, sits_of, early_of}
use Rattle.call_deeds.proofs.ReaderDeeds.{ended_early, reader_seated}

-- one of the clients opens a socket with this link by this operation
abbrev pub OpensLink : List (List Task) → List (Option Outcome) → ℕ → ℕ → Type 0
OpensLink clients outcomes link o = (client name : ℕ) × IsOperation clients outcomes client o (ops.Open name link)

module _ {O : Type 0} {g : Ghosts O} (state : O → OutState) (p : Plan) (q : id_plan.Plan) (calls : List ℕ) where
  -- whether the reading of its link ended early, so that its socket had to be set failed
  abbrev pub read_early : (x : LinkReader g) → IsReader p q calls x → Bool
  read_early x is = ended_early g state p x.operation q x.link calls false false x.before x.behind (newcomer p [] is.spare) x.seat.me.0 nothing_read x.books is.ran

  -- the links of those whose reading did
  abbrev pub early_links : (link : ℕ) (os : List ℕ) (xs : List (LinkReader g)) → AreReaders p q calls link os xs → List ℕ
  early_links link [] [] a = []
  early_links link (o ∷ os) (x ∷ xs) a = (if read_early x a.0 then x.link ∷ [] else []) ++ early_links (link + 1) os xs a.3
  early_links link [] (x ∷ xs) a = absurd a
  early_links link (o ∷ os) [] a = absurd a

  module _ (clients : List (List Task)) (outcomes : List (Option Outcome)) where
    one_seated : (link o : ℕ) (x : LinkReader g) (is : IsReader p q calls x) → x.link ≡ link → x.operation ≡ o → OpensLink clients outcomes link o
        → (r : ReaderSeat g state p clients outcomes) × (r.sits.seat ≡ x.seat) × (r.link ≡ x.link) × (r.early ≡ read_early x is)
    one_seated link o x is link_is operation_is w =
        let asked = subst (λ n. IsOperation clients outcomes w.0 n (ops.Open w.1 x.link)) (sym operation_is) (subst (λ k. IsOperation clients outcomes w.0 o (ops.Open w.1 k)) (sym link_is) w.2) in
        let r = reader_seated g state p x.operation q x.link calls false false x.before x.behind clients outcomes w.0 w.1 asked is.spare (newcomer p [] is.spare) x.seat.me.0 nothing_read x.books refl is.ran refl x.seat refl in
        (r.0, r.1, r.2, r.4)

    -- the seats of these readers, each with what its reader did
    pub record ReadersSeated (link : ℕ) (os : List ℕ) (xs : List (LinkReader g)) (a : AreReaders p q calls link os xs) : Type 0 where
      pub seats : List (ReaderSeat g state p clients outcomes)
      pub sit : map seat_of (map sits_of seats) ≡ map (λ (x : LinkReader g). x.seat) xs
      pub early : flat_map early_of seats ≡ early_links link os xs a

    pub readers_seated : (link : ℕ) (os : List ℕ) (xs : List (LinkReader g)) (a : AreReaders p q calls link os xs) → ((k o : ℕ) → get_elem? os k ≡ some o → OpensLink clients outcomes (link + k) o) → ReadersSeated link os xs a
    readers_seated link [] [] a asked = record { seats = []; sit = refl; early = refl }
    readers_seated link (o ∷ os) (x ∷ xs) a asked =
        let here : link + 0 ≡ link = omega arith in
        let next : (k : ℕ) → link + suc k ≡ (link + 1) + k = λ k. omega arith in
        let one = one_seated link o x a.0 a.1 a.2 (subst (λ k. OpensLink clients outcomes k o) here (asked 0 o refl)) in
        let rest = readers_seated (link + 1) os xs a.3 (λ k n at. subst (λ l. OpensLink clients outcomes l n) (next k) (asked (suc k) n at)) in
        record { seats = one.0 ∷ rest.seats; sit = (λ i. one.1 i ∷ rest.sit i); early = (λ i. (if one.3 i then one.2 i ∷ [] else []) ++ rest.early i) }
    readers_seated link [] (x ∷ xs) a asked = absurd a
    readers_seated link (o ∷ os) [] a asked = absurd a
