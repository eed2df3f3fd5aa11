-- The numbers and sizes of a call that was read.
use Rattle.std.proofs.Common.{◌≡◌, ℕ, ◌+◌, ◌≤◌, ◌&&◌, ◌==◌, leb, Bool, true, false, List, [], ◌∷◌, length, Ok, Err, IfOk, if◌then◌else◌, refl, arith, codes}
use Rattle.std.proofs.lemmas.Grind.{common_steps}
use Rattle.std.specs.List.{slice_split, before_last, after_last}
use Rattle.brpc_model.specs.LinePartReads.{Reads, ◌<*>◌, option_in, values_of}
use Rattle.brpc_model.specs.Text.{number_in, name_in, method_in, service_in, hex_in}
use Rattle.brpc_model.specs.Items.{CallLine}
use Rattle.brpc_model.specs.ScriptLineFaults.{names_in, bodies_in, call_in}

abbrev pub AreNames : List (List ℕ) → Type 0
AreNames ns = (1 ≤ length ns) × (length ns ≤ 2)

-- a call names one name or two, its service and method have so many bytes, and so have its bodies together; it is retried so often
pub record CallInRange (call : CallLine) : Type 0 where
  pub names : AreNames call.names
  pub service : length call.service ≤ 64
  pub method : length call.method ≤ 64
  pub bodies : length call.payload + length call.attachment ≤ 65280
  pub retry : call.retry ≤ 6

-- ## Its parts

few_retries : (w : List ℕ) → IfOk (number_in 0 6 w) (λ n. n ≤ 6)
few_retries w = grind (arith, common_steps)

retry_range : (values : List (List ℕ)) → IfOk (option_in (number_in 0 6) 0 values) (λ n. n ≤ 6)
retry_range [] = omega arith
retry_range (w ∷ []) = few_retries w
retry_range (w ∷ v ∷ more) = tt

-- a word that is spelled has so many bytes at most
spelled_range : (a b : Bool) (high : ℕ) (w : List ℕ) → IfOk {E = ℕ} (if a && leb (length w) high && b then Ok w else Err 7) (λ x. length x ≤ high)
spelled_range a b high w = grind (arith, common_steps)

service_range : (w : List ℕ) → IfOk (service_in w) (λ x. length x ≤ 64)
service_range w = spelled_range _ _ 64 w

method_range : (w : List ℕ) → IfOk (method_in w) (λ x. length x ≤ 64)
method_range w = spelled_range _ _ 64 w

one_name : (r : Reads (List ℕ)) → IfOk (Ok (λ n. n ∷ []) <*> r) AreNames
one_name (Ok n) = (omega arith, omega arith)
one_name (Err k) = tt

two_names : (r s : Reads (List ℕ)) → IfOk (Ok (λ n m. n ∷ m ∷ []) <*> r <*> s) AreNames
two_names (Ok n) (Ok m) = (omega arith, omega arith)
two_names (Ok n) (Err k) = tt
two_names (Err j) (Ok m) = tt
two_names (Err j) (Err k) = tt

names_range : (words : List (List ℕ)) → IfOk (names_in words) AreNames
names_range [] = tt
names_range (a ∷ []) = one_name (name_in a)
names_range (a ∷ b ∷ []) = two_names (name_in a) (name_in b)
names_range (a ∷ b ∷ c ∷ more) = tt

bodies_range : (r : Reads (List ℕ × List ℕ)) → IfOk (bodies_in r) (λ bytes. length bytes.0 + length bytes.1 ≤ 65280)
bodies_range (Ok bytes) = by_size (leb (length bytes.0 + length bytes.1) 65280) refl
  where
    by_size : (b : Bool) → leb (length bytes.0 + length bytes.1) 65280 ≡ b → IfOk {E = ℕ} (if b then Ok bytes else Err 6) (λ bytes. length bytes.0 + length bytes.1 ≤ 65280)
    by_size true is = grind (arith, common_steps, is)
    by_size false is = tt
bodies_range (Err k) = tt

-- ## The whole

abbrev make_call : List (List ℕ) → List ℕ → List ℕ → List ℕ × List ℕ → ℕ → CallLine
make_call ns s m bytes retry = record { names = ns; service = s; method = m; payload = bytes.0; attachment = bytes.1; retry = retry }

-- one part more, each of which is in its range
pub part_with : {A B : Type 0} (f : Reads (A → B)) (r : Reads A) (P : A → Type 0) (Q : B → Type 0) → IfOk f (λ g. (a : A) → P a → Q (g a)) → IfOk r P → IfOk (f <*> r) Q
part_with (Ok g) (Ok a) P Q h l = h a l
part_with (Ok g) (Err k) P Q h l = tt
part_with (Err j) (Ok a) P Q h l = tt
part_with (Err j) (Err k) P Q h l = tt

made_range : (names : Reads (List (List ℕ))) (service method : Reads (List ℕ)) (bodies : Reads (List ℕ × List ℕ)) (retry : Reads ℕ) → IfOk names AreNames → IfOk service (λ x. length x ≤ 64) → IfOk method (λ x. length x ≤ 64)
    → IfOk bodies (λ bytes. length bytes.0 + length bytes.1 ≤ 65280) → IfOk retry (λ n. n ≤ 6) → IfOk (Ok make_call <*> names <*> service <*> method <*> bodies <*> retry) CallInRange
made_range names service method bodies retry n s m b r =
    let Size : List ℕ → Type 0 = λ x. length x ≤ 64 in
    let Bodies : List ℕ × List ℕ → Type 0 = λ bytes. length bytes.0 + length bytes.1 ≤ 65280 in
    let Few : ℕ → Type 0 = λ n. n ≤ 6 in
    let Five : CallLine → Type 0 = λ call. CallInRange call in
    let Four : (ℕ → CallLine) → Type 0 = λ g. (e : ℕ) → e ≤ 6 → CallInRange (g e) in
    let Three : (List ℕ × List ℕ → ℕ → CallLine) → Type 0 = λ g. (d : List ℕ × List ℕ) → length d.0 + length d.1 ≤ 65280 → (e : ℕ) → e ≤ 6 → CallInRange (g d e) in
    let Two : (List ℕ → List ℕ × List ℕ → ℕ → CallLine) → Type 0 = λ g. (c : List ℕ) → length c ≤ 64 → (d : List ℕ × List ℕ) → length d.0 + length d.1 ≤ 65280 → (e : ℕ) → e ≤ 6 → CallInRange (g c d e) in
    let One : (List ℕ → List ℕ → List ℕ × List ℕ → ℕ → CallLine) → Type 0 = λ g. (b : List ℕ) → length b ≤ 64 → (c : List ℕ) → length c ≤ 64 → (d : List ℕ × List ℕ) → length d.0 + length d.1 ≤ 65280 → (e : ℕ) → e ≤ 6 → CallInRange (g b c d e) in
    part_with (Ok make_call <*> names <*> service <*> method <*> bodies) retry Few Five
    (part_with (Ok make_call <*> names <*> service <*> method) bodies Bodies Four
    (part_with (Ok make_call <*> names <*> service) method Size Three
    (part_with (Ok make_call <*> names) service Size Two
    (part_with (Ok make_call) names AreNames One
    (λ ns a. λ sv b. λ mt c. λ bd d. λ rt e. record { names = a; service = b; method = c; bodies = d; retry = e }) n) s) m) b) r

either_range : (b : Bool) (x y : Reads CallLine) → IfOk x CallInRange → IfOk y CallInRange → IfOk (if b then x else y) CallInRange
either_range true x y g h = g
either_range false x y g h = h

pub call_range : (names method payload : List ℕ) (options : List (List ℕ)) → IfOk (call_in names method payload options) CallInRange
call_range names method payload options = either_range _ _ (Err 3) (made_range _ _ _ _ _ (names_range (slice_split (λ b. b == 44) names)) (service_range (before_last (λ b. b == 46) method)) (method_range (after_last (λ b. b == 46) method))
    (bodies_range (Ok (λ p a. (p, a)) <*> hex_in payload <*> option_in hex_in [] (values_of (codes "att=") options))) (retry_range (values_of (codes "retry=") options))) tt
