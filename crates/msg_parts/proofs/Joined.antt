-- What is appended piece by piece is appended as a whole.
use Rattle.std.proofs.Common.{◌≡◌, ℕ, List, ◌++◌, Result, OnOk, ◌∙◌, append_assoc}
use Rattle.std.proofs.lemmas.Result.{on_ok_weaker}
use Rattle.ofx_types.specs.Sheet.{start_line, end_line, aggregate}

-- two pieces, one after the other
pub rest : (o m n a b : List ℕ) → m ≡ o ++ a → n ≡ m ++ b → n ≡ o ++ (a ++ b)
rest o m n a b p q = q ∙ rw p (append_assoc o a b)

wrapped : (o m n l name inner : List ℕ) → m ≡ o ++ start_line name → n ≡ m ++ inner → l ≡ n ++ end_line name → l ≡ o ++ aggregate name inner
unfolding aggregate
wrapped o m n l name inner p q r = rest o m l (start_line name) (inner ++ end_line name) p (rest m n l inner (end_line name) q r)

-- the tags of an aggregate around what is in it
pub aggregate_of : {T E : Type 0} (r : Result T E) (o m n l name inner : List ℕ) →
    m ≡ o ++ start_line name → n ≡ m ++ inner → OnOk r (l ≡ n ++ end_line name) → OnOk r (l ≡ o ++ aggregate name inner)
aggregate_of r o m n l name inner p q closed = on_ok_weaker r (λ e. wrapped o m n l name inner p q e) closed

pub ruleset joined = (aggregate_of, rest)

-- an aggregate with three parts
pub aggregate_of_three : {T E : Type 0} (r : Result T E) (o0 o1 o2 o3 o4 o5 name a b c : List ℕ) →
    o1 ≡ o0 ++ start_line name → o2 ≡ o1 ++ a → o3 ≡ o2 ++ b → o4 ≡ o3 ++ c → OnOk r (o5 ≡ o4 ++ end_line name) →
    OnOk r (o5 ≡ o0 ++ aggregate name (a ++ (b ++ c)))
aggregate_of_three r o0 o1 o2 o3 o4 o5 name a b c p q s t closed =
    aggregate_of r o0 o1 o4 o5 name (a ++ (b ++ c)) p (rest o1 o2 o4 a (b ++ c) q (rest o2 o3 o4 b c s t)) closed

-- an aggregate with four parts
pub aggregate_of_four : {T E : Type 0} (r : Result T E) (o0 o1 o2 o3 o4 o5 o6 name a b c d : List ℕ) →
    o1 ≡ o0 ++ start_line name → o2 ≡ o1 ++ a → o3 ≡ o2 ++ b → o4 ≡ o3 ++ c → o5 ≡ o4 ++ d → OnOk r (o6 ≡ o5 ++ end_line name) →
    OnOk r (o6 ≡ o0 ++ aggregate name (a ++ (b ++ (c ++ d))))
aggregate_of_four r o0 o1 o2 o3 o4 o5 o6 name a b c d p q s t u closed =
    aggregate_of r o0 o1 o5 o6 name (a ++ (b ++ (c ++ d))) p
    (rest o1 o2 o5 a (b ++ (c ++ d)) q (rest o2 o3 o5 b (c ++ d) s (rest o3 o4 o5 c d t u))) closed
