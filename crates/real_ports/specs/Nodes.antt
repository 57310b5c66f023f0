-- Which files of the system are one: a file is its device and its inode there.
-- Restates POSIX's page on <sys/stat.h>, where the two identify a file.
use Rattle.std.specs.Prelude.{◌≡◌, ◌==◌, ◌&&◌, ◌++◌, [], ◌∷◌, Bool, true, false, List, if◌then◌else◌, refl}
use Rattle.std.specs.List.{list_any}
use Rattle.real_ports.specs.declared.opened.Node.{Node}

abbrev pub is_same : Node → Node → Bool
is_same x y = (x.device == y.device) && (x.inode == y.inode)

abbrev pub is_among : List Node → Node → Bool
is_among nodes node = list_any (λ x. is_same x node) nodes

-- the list with the file behind, unless it has it
abbrev pub with_node : List Node → Node → List Node
with_node nodes node = if is_among nodes node then nodes else nodes ++ node ∷ []

-- ---- worked examples, each closed by computation

-- two files of one device, and one of another that has the first one's inode
abbrev pub first : Node
first = record { device = 1; inode = 7 }

abbrev pub second : Node
second = record { device = 1; inode = 8 }

abbrev pub elsewhere : Node
elsewhere = record { device = 2; inode = 7 }

pub first-is-itself : is_among (second ∷ first ∷ []) first ≡ true
first-is-itself = refl

pub first-is-no-other : is_among (second ∷ elsewhere ∷ []) first ≡ false
first-is-no-other = refl

pub stands-once : with_node (first ∷ second ∷ []) first ≡ first ∷ second ∷ []
stands-once = refl

pub stands-behind : with_node (first ∷ []) elsewhere ≡ first ∷ elsewhere ∷ []
stands-behind = refl
