-- What each session of the generator asks for:
-- one installs the attributes, and each other one records numbers under keys of its own.
-- This project's own choice.
use Rattle.std.specs.Prelude.{ℕ, zero, suc, ◌+◌, ◌*◌, ◌%◌, ◌==◌, if◌then◌else◌, List, [], ◌++◌}
use Rattle.std.specs.Prelude.{codes, decimal}

-- the sessions that record numbers have the numbers below it,
-- and the one that installs the attributes has it
abbrev pub sessions : ℕ
sessions = 4

-- a key that names its entity, and a number
abbrev pub installing : List ℕ
installing =
    codes "[:transact [{:db/ident :load/key :db/valueType :db.type/string "
    ++ (codes ":db/cardinality :db.cardinality/one :db/unique :db.unique/identity} "
    ++ (codes "{:db/ident :load/num :db/valueType :db.type/long "
    ++ codes ":db/cardinality :db.cardinality/one}]]\n"))

-- the i-th number of session k, from 0
abbrev pub number : ℕ → ℕ → ℕ
number k i = (1000003 * k + 7919 * i) % 1000

-- the key of the i-th number of session k
abbrev pub key : ℕ → ℕ → List ℕ
key k i = decimal k ++ (codes "-" ++ decimal i)

abbrev pub addition : ℕ → ℕ → List ℕ
addition k i =
    codes "[:transact [{:load/key \""
    ++ (key k i ++ (codes "\" :load/num " ++ (decimal (number k i) ++ codes "}]]\n")))

abbrev pub retraction : ℕ → ℕ → List ℕ
retraction k i =
    codes "[:transact [[:db/retract [:load/key \"" ++ (key k i ++ codes "\"] :load/num]]]\n")

-- each fourth number is retracted as soon as it is recorded
abbrev pub commands : ℕ → ℕ → List ℕ
commands k i = if i % 4 == 3 then addition k i ++ retraction k i else addition k i

-- so many numbers
abbrev pub numbering : ℕ → ℕ → List ℕ
numbering k zero = []
numbering k (suc i) = numbering k i ++ commands k i

-- the script of session k
abbrev pub script_of : ℕ → ℕ → List ℕ
script_of k count = if k == sessions then installing else numbering k count
