-- What becomes of views where a seat is split in two, and where two are joined.
use Rattle.std.specs.Prelude.{◌≡◌, ℕ, zero, suc, ◌+◌, ◌-◌, ◌<◌, List, [], ◌∷◌, ◌++◌, length, slice_index}
use Rattle.sock_words.specs.declared.plain.Plan.{Plan}
use Rattle.sock_words.specs.PackedWords.{vref_unused}
use Rattle.sock_model.specs.SocketTableLayout.{tag_index, ref_index, link_index, code_index, name_index, open_index, all_words}
use Rattle.sock_model.specs.declared.view.View.{View}

-- a seat that is split off with these passes. Its own lists are there from the start, so that they are never mixed with those of a seat that it takes in.
abbrev pub newcomer : Plan → List ℕ → ℕ → View
newcomer p passes more = record { plan = p; marks = []; passes = passes; spare = more; share = 1; stores = [] ∷ []; claims = []; loose = []; rights = []; hands = []; found = []; finds = []; histories = []; lists = [] ∷ []; drops = [] }

-- a seat that only carries passes until another takes it in: it accepts no message, and so has no list of them
abbrev pub carrier : Plan → List ℕ → View
carrier p passes = record { plan = p; marks = []; passes = passes; spare = 0; share = 0; stores = [] ∷ []; claims = []; loose = []; rights = []; hands = []; found = []; finds = []; histories = []; lists = []; drops = [] }

-- a seat that was taken in
abbrev pub void : Plan → View
void p = record { plan = p; marks = []; passes = []; spare = 0; share = 0; stores = []; claims = []; loose = []; rights = []; hands = []; found = []; finds = []; histories = []; lists = []; drops = [] }

abbrev pub no_plan : Plan
no_plan = record { slots = 0; links = 0; requests = 0; names = 0; operations = 0; seats = 0; first = 0 }

abbrev pub spent : View
spent = void no_plan

-- the seat v takes in a seat that has no claim, entry, right or link in hand
abbrev pub joined : View → View → View
joined v w = record v { marks = v.marks ++ w.marks; passes = v.passes ++ w.passes; spare = v.spare + w.spare; share = v.share + w.share; stores = v.stores ++ w.stores; found = v.found ++ w.found; finds = v.finds ++ w.finds; histories = v.histories ++ w.histories; lists = v.lists ++ w.lists; drops = v.drops ++ w.drops }

-- such a seat
pub record IsBare (v : View) : Type 0 where
  pub claims : v.claims ≡ []
  pub loose : v.loose ≡ []
  pub rights : v.rights ≡ []
  pub hands : v.hands ≡ []

abbrev pub below : ℕ → List ℕ
below zero = []
below (suc n) = n ∷ below n

-- the first seat has all passes
abbrev pub first_view : Plan → View
first_view p = newcomer p (below p.links) 511

abbrev pub earliest : List ℕ → List ℕ
earliest [] = []
earliest (p ∷ ps) = p ∷ []

abbrev pub later : List ℕ → List ℕ
later [] = []
later (p ∷ ps) = ps

-- a seat that gives away a pass
abbrev pub lighter : View → View
lighter v = record v { passes = later v.passes; spare = v.spare - 1 }

-- the words before any step
pub record Unused (p : Plan) (ws : List ℕ) : Type 0 where
  pub sized : length ws ≡ all_words p
  pub tags : (i : ℕ) → i < p.slots → slice_index ws (tag_index i) ≡ 0
  pub refs : (i : ℕ) → i < p.slots → slice_index ws (ref_index i) ≡ vref_unused p.first
  pub links : (i : ℕ) → i < p.slots → slice_index ws (link_index i) ≡ 0
  pub codes : (i : ℕ) → i < p.slots → slice_index ws (code_index i) ≡ 0
  pub names : (n : ℕ) → n < p.names → slice_index ws (name_index p n) ≡ 0
  pub opens : (o : ℕ) → o < p.operations → slice_index ws (open_index p o) ≡ 0
