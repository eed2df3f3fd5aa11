-- How long the lists of a core are.
use Rattle.std.specs.Prelude.{◌≡◌, ◌+◌, length}
use Rattle.sock_words.specs.declared.plain.Plan.{Plan}
use Rattle.corr_core.specs.declared.marks.Plan.{Plan as IdPlan}
use Rattle.id_rule.specs.LawfulIdTable as ids
use Rattle.sock_model.specs.SocketTableLayout.{all_words}
use Rattle.seat_programs.specs.Cores.{Core}

-- a core over tables of these sizes: a home for each request, then one for each link; a seat for each client and the setup below 32, and behind these one for each reader; and an
-- outcome, or a place for one, of each operation
pub record IsSized (p : Plan) (q : IdPlan) (c : Core) : Type 0 where
  pub words : length c.words ≡ all_words p
  pub homes : length c.homes ≡ p.requests + p.links
  pub seats : length c.seats ≡ 32 + p.links
  pub outcomes : length c.outcomes ≡ p.operations
  -- the table of ids: a home for each call, and of each seat the retries that wait
  pub plan : c.calls.plan ≡ q
  pub id_words : length c.calls.words ≡ ids.all_words q
  pub id_homes : length c.calls.homes ≡ q.slots
  pub waiting : length c.calls.waiting ≡ q.seats
  -- and of each link what it gave
  pub gave : length c.calls.gave ≡ p.links
