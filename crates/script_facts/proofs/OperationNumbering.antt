-- The operations of a script with their numbers: the place of each, its link, and its task.
use Rattle.std.proofs.Common.{◌≡◌, ℕ, zero, suc, ◌+◌, ◌<◌, ◌≤◌, ◌⊎◌, inl, inr, Bool, true, false, cond, if◌then◌else◌, List, [], ◌∷◌, length, take, filter_map, count_by, slice_get, Option, Some, None, refl, ap, sym, ◌∙◌, subst, arith}
use Rattle.std.proofs.lemmas.List.Sums.{sum_by-cons}
use Rattle.std.specs.List.{cons_option}
use Rattle.brpc_model.specs.Items.{Item, Slots, Requests, First, Open, Client, Sched, Tick, To, is_open, is_client, is_operation, opened_name}
use Rattle.brpc_model.specs.Operations.{Operation, operations_from}
use Rattle.seat_programs.specs.Tasks.{Numbered, numbered_from}
use Rattle.script_facts.proofs.FilteredLists.{Has, has_first, has_later, some_is}

-- ## Links

abbrev pub count_opens : List Operation → ℕ
count_opens ops = count_by (λ (op : Operation). is_open op.item) ops

-- how many opens come before operation i, which is the number of its link
abbrev pub link_at : List Operation → ℕ → ℕ
link_at ops i = count_opens (take i ops)

opens_open : (op : Operation) (ops : List Operation) → is_open op.item ≡ true → count_opens (op ∷ ops) ≡ count_opens ops + 1
opens_open op ops e =
    let one : cond {A = ℕ} (is_open op.item) 1 0 ≡ 1 = ap {B = ℕ} (λ b. cond b 1 0) e in
    omega (arith, one, sum_by-cons (λ (x : Operation). cond (is_open x.item) 1 0) op ops)

opens_other : (op : Operation) (ops : List Operation) → is_open op.item ≡ false → count_opens (op ∷ ops) ≡ count_opens ops
opens_other op ops e =
    let one : cond {A = ℕ} (is_open op.item) 1 0 ≡ 0 = ap {B = ℕ} (λ b. cond b 1 0) e in
    omega (arith, one, sum_by-cons (λ (x : Operation). cond (is_open x.item) 1 0) op ops)

-- ## Numbers

number_behind : (b : Bool) (link n : ℕ) → (if b then link + 1 else link) + n ≡ link + (n + cond b 1 0)
number_behind true link n = omega arith
number_behind false link n = omega arith

link_behind : (op : Operation) (ops : List Operation) (link : ℕ) → (if is_open op.item then link + 1 else link) + count_opens ops ≡ link + count_opens (op ∷ ops)
link_behind op ops link = omega (arith, number_behind (is_open op.item) link (count_opens ops), sum_by-cons (λ (x : Operation). cond (is_open x.item) 1 0) op ops)

-- what is known of an operation with its numbers
pub record IsNumbered (ops : List Operation) (first opened i : ℕ) (x : Numbered) : Type 0 where
  pub number : x.number ≡ first + i
  pub op : slice_get ops i ≡ Some x.op
  pub link : x.link ≡ opened + link_at ops i

pub is_numbered : (number link : ℕ) (ops : List Operation) (i : ℕ) (x : Numbered) → slice_get (numbered_from number link ops) i ≡ Some x → IsNumbered ops number link i x
is_numbered number link [] i x e = absurd (cc)
is_numbered number link (op ∷ ops) zero x e =
    let first : Numbered = record { number = number; link = link; op = op } in
    let same : first ≡ x = some_is first x e in
    let at_number : number ≡ number + 0 = omega arith in
    let at_link : link ≡ link + 0 = omega arith in
    record {
      number = sym (ap (λ (y : Numbered). y.number) same) ∙ at_number;
      op = ap (λ (y : Numbered). Some y.op) same;
      link = sym (ap (λ (y : Numbered). y.link) same) ∙ at_link;
    }
is_numbered number link (op ∷ ops) (suc i) x e =
    let w = is_numbered (number + 1) (if is_open op.item then link + 1 else link) ops i x e in
    record {
      number = omega (arith, w.number);
      op = w.op;
      link = w.link ∙ link_behind op (take i ops) link;
    }

pub numbered_at : (number link : ℕ) (ops : List Operation) (i : ℕ) (op : Operation) → slice_get ops i ≡ Some op →
    slice_get (numbered_from number link ops) i ≡ Some (record { number = number + i; link = link + link_at ops i; op = op })
numbered_at number link [] i op e = absurd (cc)
numbered_at number link (o ∷ ops) zero op e =
    let at_number : number ≡ number + 0 = omega arith in
    let at_link : link ≡ link + 0 = omega arith in
    ap (λ (x : Operation). Some (record { number = number; link = link; op = x })) (some_is o op e)
    ∙ ap (λ n. Some (record { number = n; link = link; op = op })) at_number
    ∙ ap (λ n. Some (record { number = number + 0; link = n; op = op })) at_link
numbered_at number link (o ∷ ops) (suc i) op e =
    let next : (number + 1) + i ≡ number + suc i = omega arith in
    numbered_at (number + 1) (if is_open o.item then link + 1 else link) ops i op e
    ∙ ap (λ n. Some (record { number = n; link = (if is_open o.item then link + 1 else link) + link_at ops i; op = op })) next
    ∙ ap (λ n. Some (record { number = number + suc i; link = n; op = op })) (link_behind o (take i ops) link)

-- ## The operations of a script

-- the operations where the item is one, a client's beginning, or neither
pub behind_item : (client number : ℕ) (item : Item) (items : List Item) (P : List Operation → Type 0) →
    (is_client item ≡ true → P (operations_from (client + 1) 1 items)) →
    (is_client item ≡ false → is_operation item ≡ true → P ((record { client = client; number = number; item = item }) ∷ operations_from client (number + 1) items)) →
    (is_client item ≡ false → is_operation item ≡ false → P (operations_from client number items)) →
    P (operations_from client number (item ∷ items))
behind_item client number Client items P a b c = a refl
behind_item client number (Slots n) items P a b c = c refl refl
behind_item client number (Requests n) items P a b c = c refl refl
behind_item client number (First n) items P a b c = c refl refl
behind_item client number Sched items P a b c = c refl refl
behind_item client number (Tick s n) items P a b c = c refl refl
behind_item client number (To s n) items P a b c = c refl refl
behind_item client number other items P a b c = b refl refl

client_counted : (item : Item) (items : List Item) → is_client item ≡ true → count_by is_client (item ∷ items) ≡ suc (count_by is_client items)
client_counted item items e =
    let one : cond {A = ℕ} (is_client item) 1 0 ≡ 1 = ap {B = ℕ} (λ b. cond b 1 0) e in
    omega (arith, one, sum_by-cons (λ (x : Item). cond (is_client x) 1 0) item items)

other_counted : (item : Item) (items : List Item) → is_client item ≡ false → count_by is_client (item ∷ items) ≡ count_by is_client items
other_counted item items e =
    let one : cond {A = ℕ} (is_client item) 1 0 ≡ 0 = ap {B = ℕ} (λ b. cond b 1 0) e in
    omega (arith, one, sum_by-cons (λ (x : Item). cond (is_client x) 1 0) item items)

-- an operation of these items, which is one of the clients' from this one on
pub record IsFrom (client : ℕ) (items : List Item) (op : Operation) : Type 0 where
  pub low : client ≤ op.client
  pub high : op.client ≤ client + count_by is_client items
  pub there : Has items op.item
  pub is : is_operation op.item ≡ true

abbrev AreFrom : ℕ → List Item → List Operation → Type 0
AreFrom client items ops = (i : ℕ) (op : Operation) → slice_get ops i ≡ Some op → IsFrom client items op

first_from : (client number : ℕ) (item : Item) (items : List Item) → is_client item ≡ false → is_operation item ≡ true →
    AreFrom client items (operations_from client (number + 1) items) → AreFrom client (item ∷ items) ((record { client = client; number = number; item = item }) ∷ operations_from client (number + 1) items)
first_from client number item items c o again zero op e =
    let first : Operation = record { client = client; number = number; item = item } in
    let P : Operation → Type 0 = λ x. IsFrom client (item ∷ items) x in
    subst P (some_is first op e) (record { low = omega arith; high = omega arith; there = has_first item items; is = o })
first_from client number item items c o again (suc i) op e =
    let w = again i op e in
    record { low = w.low; high = omega (arith, w.high, other_counted item items c); there = has_later item items op.item w.there; is = w.is }

pub are_from : (client number : ℕ) (items : List Item) (i : ℕ) (op : Operation) → slice_get (operations_from client number items) i ≡ Some op → IsFrom client items op
are_from client number [] i op e = absurd (cc)
are_from client number (item ∷ items) i op e =
    let next : AreFrom (client + 1) items (operations_from (client + 1) 1 items) = are_from (client + 1) 1 items in
    let own : AreFrom client items (operations_from client (number + 1) items) = are_from client (number + 1) items in
    let same : AreFrom client items (operations_from client number items) = are_from client number items in
    behind_item client number item items (AreFrom client (item ∷ items))
    (λ c i op e. let w = next i op e in record { low = omega (arith, w.low); high = omega (arith, w.high, client_counted item items c); there = has_later item items op.item w.there; is = w.is })
    (λ c o. first_from client number item items c o own)
    (λ c o i op e. let w = same i op e in record { low = w.low; high = omega (arith, w.high, other_counted item items c); there = has_later item items op.item w.there; is = w.is })
    i op e

-- ## The names of links

abbrev pub opened_by : Operation → Option (List ℕ)
opened_by op = opened_name op.item

opens_nothing : (item : Item) (items : List Item) → is_operation item ≡ false → filter_map opened_name (item ∷ items) ≡ filter_map opened_name items
opens_nothing (Open name shape) items e = absurd (cc)
opens_nothing other items e = refl

client_opens_nothing : (item : Item) (items : List Item) → is_client item ≡ true → filter_map opened_name (item ∷ items) ≡ filter_map opened_name items
client_opens_nothing Client items e = refl
client_opens_nothing other items e = absurd (cc)

pub names_of_operations : (client number : ℕ) (items : List Item) → filter_map opened_name items ≡ filter_map opened_by (operations_from client number items)
names_of_operations client number [] = refl
names_of_operations client number (item ∷ items) =
    let next : filter_map opened_name items ≡ filter_map opened_by (operations_from (client + 1) 1 items) = names_of_operations (client + 1) 1 items in
    let own : filter_map opened_name items ≡ filter_map opened_by (operations_from client (number + 1) items) = names_of_operations client (number + 1) items in
    let same : filter_map opened_name items ≡ filter_map opened_by (operations_from client number items) = names_of_operations client number items in
    behind_item client number item items (λ ops. filter_map opened_name (item ∷ items) ≡ filter_map opened_by ops)
    (λ c. client_opens_nothing item items c ∙ next)
    (λ c o. ap (cons_option (opened_name item)) own)
    (λ c o. opens_nothing item items o ∙ same)

-- an item opens a link under a name, or none
abbrev pub OpensOrNot : Item → Type 0
OpensOrNot item = ((is_open item ≡ true) × (name : List ℕ) × (opened_name item ≡ Some name)) ⊎ ((is_open item ≡ false) × (opened_name item ≡ None))

pub opens_or_not : (item : Item) → OpensOrNot item
opens_or_not (Open n shape) = inl (refl, n, refl)
opens_or_not other = inr (refl, refl)

counted_step : (op : Operation) (ops : List Operation) → OpensOrNot op.item → length (filter_map opened_by ops) ≡ count_opens ops → length (filter_map opened_by (op ∷ ops)) ≡ count_opens (op ∷ ops)
counted_step op ops (inl w) again =
    let longer : length (filter_map opened_by (op ∷ ops)) ≡ suc (length (filter_map opened_by ops)) = ap (λ o. length (cons_option o (filter_map opened_by ops))) w.2 in
    omega (arith, longer, again, opens_open op ops w.0)
counted_step op ops (inr w) again =
    let same : length (filter_map opened_by (op ∷ ops)) ≡ length (filter_map opened_by ops) = ap (λ o. length (cons_option o (filter_map opened_by ops))) w.1 in
    omega (arith, same, again, opens_other op ops w.0)

pub links_counted : (ops : List Operation) → length (filter_map opened_by ops) ≡ count_opens ops
links_counted [] = refl
links_counted (op ∷ ops) = counted_step op ops (opens_or_not op.item) (links_counted ops)

name_step : (o : Operation) (ops : List Operation) (i : ℕ) (name : List ℕ) → OpensOrNot o.item → slice_get (filter_map opened_by ops) (link_at ops i) ≡ Some name → slice_get (filter_map opened_by (o ∷ ops)) (link_at (o ∷ ops) (suc i)) ≡ Some name
name_step o ops i name (inl w) again =
    let at : link_at (o ∷ ops) (suc i) ≡ suc (link_at ops i) = omega (arith, opens_open o (take i ops) w.0) in
    ap (λ x. slice_get (cons_option x (filter_map opened_by ops)) (link_at (o ∷ ops) (suc i))) w.2 ∙ ap (slice_get (w.1 ∷ filter_map opened_by ops)) at ∙ again
name_step o ops i name (inr w) again =
    ap (λ x. slice_get (cons_option x (filter_map opened_by ops)) (link_at (o ∷ ops) (suc i))) w.1 ∙ ap (slice_get (filter_map opened_by ops)) (opens_other o (take i ops) w.0) ∙ again

-- the name of an open's link
pub link_name_at : (ops : List Operation) (i : ℕ) (op : Operation) (name : List ℕ) → slice_get ops i ≡ Some op → opened_by op ≡ Some name → slice_get (filter_map opened_by ops) (link_at ops i) ≡ Some name
link_name_at [] i op name e f = absurd (cc)
link_name_at (o ∷ ops) zero op name e f = ap (λ x. slice_get (cons_option x (filter_map opened_by ops)) 0) (ap opened_by (some_is o op e) ∙ f)
link_name_at (o ∷ ops) (suc i) op name e f = name_step o ops i name (opens_or_not o.item) (link_name_at ops i op name e f)

-- ## Links of two operations

link_step : (o : Operation) (ops : List Operation) (i j : ℕ) → OpensOrNot o.item → link_at ops i < link_at ops j → link_at (o ∷ ops) (suc i) < link_at (o ∷ ops) (suc j)
link_step o ops i j (inl w) h = omega (arith, h, opens_open o (take i ops) w.0, opens_open o (take j ops) w.0)
link_step o ops i j (inr w) h = omega (arith, h, opens_other o (take i ops) w.0, opens_other o (take j ops) w.0)

-- a later operation has a later link than an open
pub link_later : (ops : List Operation) (i j : ℕ) (op : Operation) → slice_get ops i ≡ Some op → is_open op.item ≡ true → i < j → link_at ops i < link_at ops j
link_later [] i j op e f h = absurd (cc)
link_later (o ∷ ops) i zero op e f h = absurd (omega (arith, h))
link_later (o ∷ ops) zero (suc j) op e f h = let here : is_open o.item ≡ true = ap (λ (x : Operation). is_open x.item) (some_is o op e) ∙ f in omega (arith, opens_open o (take j ops) here)
link_later (o ∷ ops) (suc i) (suc j) op e f h = link_step o ops i j (opens_or_not o.item) (link_later ops i j op e f (omega (arith, h)))

pub numbered_length : (number link : ℕ) (ops : List Operation) → length (numbered_from number link ops) ≡ length ops
numbered_length number link [] = refl
numbered_length number link (op ∷ ops) = ap suc (numbered_length (number + 1) (if is_open op.item then link + 1 else link) ops)
