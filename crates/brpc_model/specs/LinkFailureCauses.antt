-- Why a link may leave messages dropped, and what a run may find for a name or a request.
use Rattle.std.specs.Prelude.{ℕ, ◌≡◌, ◌≢◌, ◌<◌, ◌≤◌, true, IsTrue, List, length, sum_by, slice_get, Some, Contains}
use Rattle.std.specs.List.{AllByRecursion}
use Rattle.sock_words.specs.declared.outcome.Outcome.TheVariants.{Opened, Unopened, Failed}
use Rattle.brpc_model.specs.Items.{sought_name}
use Rattle.brpc_model.specs.Operations.{Operation, link_names, attempts, requests}
use Rattle.brpc_model.specs.Frame.{FrameFault}
use Rattle.brpc_model.specs.FrameStream.{Fault, stream}
use Rattle.brpc_model.specs.ReturnedLink.{LinkEnd}
use Rattle.brpc_model.specs.Report.{LinkLine}
use Rattle.brpc_model.specs.Run.{Run, IsOperation, HasOutcome, IsLinkOf, BecameSocket}
use Rattle.brpc_model.specs.Order.{EachBefore}

-- ## The reading of a link

-- the most that a link may give before its reading ends
abbrev pub reading_limit : ℕ
reading_limit = 16777216

-- these bytes have a frame fault
abbrev pub HasFault : List ℕ → Type 0
HasFault bytes = (start : ℕ) × (fault : FrameFault) × ((stream bytes).ending ≡ Fault start fault)

-- the reading ended early
pub data EndedEarly (run : Run) (e : LinkEnd) : Type 0 where
  GaveItsEnd : IsTrue e.gave_end → EndedEarly run e
  GaveAFault : HasFault (run.story.gave e.link) → EndedEarly run e
  GaveTheMost : reading_limit ≤ e.gave_count → EndedEarly run e
  TakeFailed : 0 < e.take_faults → EndedEarly run e

-- the reading ended: early, at `Closed`, or with nothing there to take once the run was ending
pub data ReadingEnded (run : Run) (e : LinkEnd) : Type 0 where
  Early : EndedEarly run e → ReadingEnded run e
  AtClosed : e.closed ≡ Some true → ReadingEnded run e
  AtSilence : Contains run.late.silent e.link → ReadingEnded run e

-- ## Failing links

-- a put failed, a `fail` that counts failed the life of this link, the reading ended early, or the link became a socket's
-- while the run was ending
pub data FailingBy (run : Run) (counts : ℕ → Type 0) (e : LinkEnd) : Type 0 where
  PutFailed : 0 < e.put_faults → FailingBy run counts e
  WasFailed : (i : ℕ) → counts i → Contains run.story.fails (i, e.link) → FailingBy run counts e
  ReadEarly : EndedEarly run e → FailingBy run counts e
  BornLate : Contains run.late.links e.link → FailingBy run counts e

-- what holds of the link of this number, as it was given back
abbrev pub OfLink : Run → (LinkEnd → Type 0) → ℕ → Type 0
OfLink run P k = (e : LinkEnd) × Contains run.ends e × (e.link ≡ k) × P e

-- link k was failing, by whatever cause
abbrev pub Failing : Run → ℕ → Type 0
Failing run k = OfLink run (FailingBy run (λ i. Unit {0})) k

-- operation j isn't a later one of operation i's client
abbrev pub IsNoLater : Run → ℕ → ℕ → Type 0
IsNoLater run i j = (p q : Operation) → IsOperation run i p → IsOperation run j q → p.client ≡ q.client → j < i

-- failing for operation i: by a cause other than a later `fail` of its own client
abbrev pub FailingFor : Run → ℕ → ℕ → Type 0
FailingFor run i k = OfLink run (FailingBy run (IsNoLater run i)) k

-- these are the `fail` operations that were answered `failed`; each failed the life of a link of its name, and no two
-- of them that of the same link
pub record AreFails (run : Run) : Type 0 where
  pub answered : AllByRecursion (λ (f : ℕ × ℕ). HasOutcome run f.0 Failed) run.story.fails
  pub named : AllByRecursion (λ (f : ℕ × ℕ). (op : Operation) × IsOperation run f.0 op × (sought_name op.item ≡ slice_get (link_names run.script) f.1)) run.story.fails
  pub lived : AllByRecursion (λ (f : ℕ × ℕ). BecameSocket run f.1) run.story.fails
  pub each : (i : ℕ) → HasOutcome run i Failed → (k : ℕ) × Contains run.story.fails (i, k)
  pub once : EachBefore (λ (f g : ℕ × ℕ). (f.0 ≢ g.0) × (f.1 ≢ g.1)) run.story.fails

-- ## Names without a socket, requests that are all taken

-- operation j gave the name a socket
abbrev pub Opens : Run → ℕ → List ℕ → Type 0
Opens run j name = (slot version k : ℕ) × HasOutcome run j (Opened slot version k) × IsLinkOf run k name

-- at operation m a client may find no socket under the name: no operation of the setup gave it one, and none of this
-- client before m gave it one or found one
abbrev pub MayFindNone : Run → ℕ → ℕ → List ℕ → Type 0
MayFindNone run client m name = (j : ℕ) (q : Operation) → IsOperation run j q →
    (q.client ≡ 0 → Opens run j name → ⊥)
    × (q.client ≡ client → j < m → (Opens run j name → ⊥) × (sought_name q.item ≡ Some name → HasOutcome run j Unopened))

-- each request may have been found taken: the orders have at least as many labels as there are requests, and the
-- script has more attempts than these
abbrev pub MayBeFull : Run → Type 0
MayBeFull run = (requests run.script ≤ sum_by (λ (line : LinkLine). length line.order) run.report.links) × (requests run.script < attempts run.script)
