-- A line of a valid session has at most 128 bytes, and a listing 129 such lines: nothing that is lent as much is refused for want of room.
-- Assumes nothing.
use mathlib.Core.Path.{◌≡◌}
use mathlib.Core.Bool.{true}
use mathlib.Core.List.{List, [], ◌∷◌, ◌++◌}
use Prim.Native.Nat.{ℕ, ◌+◌, ◌*◌, ◌≤◌, ◌<◌}
use native.Mathlib.Omega.{arith}
use lib.ListN.{length, length-append}
use Rattle.text.specs.Text.{ascii, texts}
use Rattle.text.proofs.Decimals.{len_ten}
use Rattle.graph.specs.Words.{modulus}
use Rattle.graph.specs.KeyLists.{are_keys}
use Rattle.graph.specs.Nodes.{Node, Result}
use Rattle.graph.specs.Sessions.{Station, Session, graph_of, labels_of_results, pending, live}
use Rattle.graph.specs.Valid.{Each, ValidNode, ValidStation, ValidResult, KeysFall, Given, Valid}
use Rattle.graph.proofs.Labels.{length_labels}
use Rattle.graph.proofs.Limits.{each_right}
use Rattle.graph.proofs.Demand3.{graph_length}
use Rattle.text.proofs.CommaLists.{commas_short}
use Rattle.print.specs.Printed.{line_of, result_text, node_text, head_text}
use Rattle.listing.specs.Listed.{listing_of}

-- two numbers and up to eight keys
line_short : (a b c : List ℕ) (x y : ℕ) (ks : List ℕ) → length a + length b + length c ≤ 19 → x < modulus → y < modulus → length ks ≤ 8 → are_keys ks ≡ true → length (line_of a x b y c ks) ≤ 128
line_short a b c x y ks h k l few v = simp length-append (omega (arith, h, len_ten x k, len_ten y l, commas_short ks v few))

pub result_short : (r : Result) → r.label < modulus → ValidResult r → length (result_text r) ≤ 128
unfolding ascii
result_short r l v = line_short (ascii "label=") (ascii " value=") (ascii " left=") r.label r.value r.left (omega arith) l v.value v.left.few v.left.keys

node_short : (n : Node) → n.key < modulus → ValidNode n → length (node_text n) ≤ 128
unfolding ascii
node_short n k v = line_short (ascii "key=") (ascii " value=") (ascii " links=") n.key n.value n.links (omega arith) k v.value v.few v.keys

head_short : (n m k : ℕ) → n < modulus → m < modulus → k < modulus → length (head_text n m k) ≤ 128
unfolding ascii
head_short n m k a b c = simp length-append (omega (arith, len_ten n a, len_ten m b, len_ten k c))

nodes_short : (ss : List Station) → length ss ≤ 64 → KeysFall ss → Each ValidStation ss → length (texts node_text (graph_of ss)) ≤ 128 * length ss
nodes_short [] h k v = omega arith
nodes_short (s ∷ ss) h k v =
    omega (arith, length-append (node_text s.node) (texts node_text (graph_of ss)), node_short s.node (omega (arith, h, k.0)) v.0.node, nodes_short ss (omega (arith, h)) k.1 v.1)

results_short : (rs : List Result) (last : ℕ) → last ≤ 65535 → Each ValidResult rs → Each (Given last) (labels_of_results rs) → length (texts result_text rs) ≤ 128 * length rs
results_short [] last h v g = omega arith
results_short (r ∷ rs) last h v g =
    omega (arith, length-append (result_text r) (texts result_text rs), result_short r (omega (arith, h, g.0.1)) v.0, results_short rs last h v.1 g.1)

-- the head and up to 128 lines: no listing that is lent as much is refused for want of room
pub listing_short : (s : Session) → Valid s → length (listing_of s) ≤ 16512
listing_short s v =
    let nodes : List Node = graph_of s.stations in
    let results : List Result = s.results in
    let labels : length (labels_of_results results) ≡ length results = length_labels results in
    let both : length (live s) ≡ length (pending s) + length (labels_of_results results) = length-append (pending s) (labels_of_results results) in
    let few : length s.stations ≤ 64 = omega (arith, v.room) in
    let head : List ℕ = head_text (length nodes) (length results) (length (pending s)) in
    let short : length head ≤ 128 =
    head_short (length nodes) (length results) (length (pending s)) (omega (arith, graph_length s.stations, few)) (omega (arith, labels, both, v.places)) (omega (arith, both, v.places)) in
    let a = nodes_short s.stations few v.falling v.stations in
    let b = results_short results s.last v.labels v.results (each_right (Given s.last) (pending s) (labels_of_results results) v.given) in
    let whole : length (listing_of s) ≡ length (head ++ texts node_text nodes) + length (texts result_text results) = length-append (head ++ texts node_text nodes) (texts result_text results) in
    omega (arith, whole, length-append head (texts node_text nodes), short, a, b, few, labels, both, v.places)
