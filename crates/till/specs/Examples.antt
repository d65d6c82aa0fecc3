-- Texts, and what reading them answers and leaves. Proved in proofs/Examples.
use Rattle.std.specs.Prelude.{◌≡◌, List, [], ◌∷◌, ◌++◌, ℕ, zero, suc, ◌*◌, length, drop, replicate}
use Prim.Native.String.{String}
use Rattle.text.specs.Bytes.{bytes_of}
use Rattle.orders.specs.Orders.{order_with}
use Rattle.orders.specs.declared.Order.{Order}
use Rattle.state.specs.Counts.{count_number, count_value}
use Rattle.state.specs.Model.{gateway}
use Rattle.till.specs.Till.{till_call, till_after}

-- ---- in one row of numbers: the refusal's number or 0, the answer's count, and key, price and worker of each order of the list
abbrev pub row_of : List Order → List ℕ
row_of [] = []
row_of (o ∷ os) = o.key ∷ o.price ∷ o.worker ∷ row_of os

abbrev pub outcome : ℕ → List ℕ → List Order → List ℕ
outcome m text old =
    count_number (till_call gateway text m (length old)) ∷ count_value (till_call gateway text m (length old)) ∷ row_of (till_after gateway text m old)

pub record Example : Type 0 where
  pub crew : ℕ
  pub text : List ℕ
  pub list : List Order
  pub row : List ℕ

abbrev pub Says : Example → Type 0
Says e = outcome e.crew e.text e.list ≡ e.row

-- ---- a list of so many places, each with the same order in it
abbrev pub taken : ℕ → List Order
taken n = replicate n (order_with 91 92 93)

-- the records are written at the front of a list with so many places, and the places behind are kept
abbrev pub dealing : (crew room : ℕ) → List ℕ → (count : ℕ) → List ℕ → Example
dealing m n s c row = record { crew = m; text = s; list = taken n; row = 0 ∷ c ∷ row ++ drop (3 * c) (row_of (taken n)) }

-- the call is refused, and the list is kept
abbrev pub refusing : (crew room : ℕ) → List ℕ → (number : ℕ) → Example
refusing m n s k = record { crew = m; text = s; list = taken n; row = k ∷ 0 ∷ row_of (taken n) }

-- with three workers and four places
abbrev pub reads : String → ℕ → List ℕ → Example
reads s c row = dealing 3 4 (bytes_of s) c row

abbrev pub refuses : String → ℕ → Example
refuses s k = refusing 3 4 (bytes_of s) k

unfoldable pub readings : List Example
readings =
    -- with and without a CRLF at the end
    reads "1,2" 1 (1 ∷ 2 ∷ 0 ∷ [])
    ∷ reads "1,2\r\n" 1 (1 ∷ 2 ∷ 0 ∷ [])
    ∷ reads "1,2\r\n3,4" 2 (1 ∷ 2 ∷ 0 ∷ 3 ∷ 4 ∷ 1 ∷ [])
    ∷ reads "1,2\r\n3,4\r\n" 2 (1 ∷ 2 ∷ 0 ∷ 3 ∷ 4 ∷ 1 ∷ [])
    -- workers in turn
    ∷ reads "7,1\r\n8,1\r\n9,1\r\n7,2\r\n" 4 (7 ∷ 1 ∷ 0 ∷ 8 ∷ 1 ∷ 1 ∷ 9 ∷ 1 ∷ 2 ∷ 7 ∷ 2 ∷ 0 ∷ [])
    -- quotes, which may stand around any field
    ∷ reads "\"10\",2\r\n3,\"40\"\r\n\"5\",\"6\"" 3 (10 ∷ 2 ∷ 0 ∷ 3 ∷ 40 ∷ 1 ∷ 5 ∷ 6 ∷ 2 ∷ [])
    -- the numbers 0 and 4294967295, and as many digits as there can be; what they may be is the opening's matter
    ∷ reads "0,4294967295\r\n4294967295,0\r\n1234567890,10" 3
    (0 ∷ 4294967295 ∷ 0 ∷ 4294967295 ∷ 0 ∷ 1 ∷ 1234567890 ∷ 10 ∷ 2 ∷ [])
    ∷ []

unfoldable pub not_numbers : List Example
not_numbers =
    refuses "4294967296,1" 20
    ∷ refuses "1,4294967296" 20
    ∷ refuses "1,10000000000" 20
    ∷ refuses "1,99999999999999999999" 20
    ∷ refuses "14294967295,1" 20
    ∷ refuses "1,18446744073709551617" 20
    ∷ refuses "01,1" 20
    ∷ refuses "1,00" 20
    ∷ refuses "\"01\",1" 20
    ∷ refuses "-1,2" 20
    ∷ refuses "+1,2" 20
    ∷ refuses "-0,1" 20
    ∷ refuses "0x1,2" 20
    ∷ refuses "1e1,2" 20
    ∷ refuses "1'000,2" 20
    ∷ refuses "1,2.0" 20
    ∷ refuses "1,2x" 20
    ∷ refuses "/,1" 20
    ∷ refuses ":,1" 20
    -- between quotes a quote, a comma, CR and LF are in the grammar, and in no number
    ∷ refuses "\"1\"\"2\",3" 20
    ∷ refuses "\"\"\"\",1" 20
    ∷ refuses "\"\"\"1\"\"\",2" 20
    ∷ refuses "1,\"2\"\"\"" 20
    ∷ refuses "1,\"\"\"\"\"\"" 20
    ∷ refuses "\"1\r\n\",2" 20
    ∷ refuses "\"1\r\",2" 20
    ∷ refuses "1,\"\r2\"" 20
    ∷ refuses "\"1\n\",2" 20
    ∷ refuses "1,\"\n2\"" 20
    ∷ refuses "\"1,2\",3" 20
    -- empty fields, and blanks
    ∷ refuses "," 20
    ∷ refuses "1," 20
    ∷ refuses ",1" 20
    ∷ refuses "\"\",\"\"" 20
    ∷ refuses " 1,2" 20
    ∷ refuses "1 ,2" 20
    ∷ refuses "1,2 " 20
    ∷ refuses "1, 2" 20
    ∷ refuses "\" 1\",2" 20
    ∷ refuses "1,\"2 \"" 20
    -- a header is a record
    ∷ refuses "label,price\r\n1,2" 20
    -- the ends of TEXTDATA: 32, 33, 35, 43, 45, 126
    ∷ refuses " !#+-~,1" 20
    ∷ refuses "\" !#+-~\",1" 20
    -- all of it
    ∷ refuses " !#$%&'()*+-./0123456789:;<=>?@ABCDEFGHIJKLMNOPQRSTUVWXYZ[\\]^_`abcdefghijklmnopqrstuvwxyz{|}~,1" 20
    ∷ refuses "\" !#$%&'()*+-./0123456789:;<=>?@ABCDEFGHIJKLMNOPQRSTUVWXYZ[\\]^_`abcdefghijklmnopqrstuvwxyz{|}~\",1" 20
    ∷ []

unfoldable pub not_records : List Example
not_records =
    -- one field, three fields, no field
    refuses "1" 19
    ∷ refuses "1\r\n" 19
    ∷ refuses "\"1,2\"" 19
    ∷ refuses "1,2,3" 19
    ∷ refuses "1,2,\r\n" 19
    ∷ refuses "1,2," 19
    ∷ refuses ",1,2" 19
    ∷ refuses "\"1\";\"2\"" 19
    ∷ refuses "\"1\"\t\"2\"" 19
    ∷ refuses "" 19
    ∷ refuses "\r\n" 19
    ∷ refuses "\r\n1,2" 19
    ∷ refuses "1,2\r\n\r\n" 19
    ∷ refuses "1,2\r\n\r\n3,4" 19
    -- CR or LF alone
    ∷ refuses "1,2\n" 19
    ∷ refuses "1,2\n3,4" 19
    ∷ refuses "1,2\r" 19
    ∷ refuses "1,2\r3,4" 19
    ∷ refuses "1,2\n\r" 19
    ∷ refuses "1,2\r\r\n" 19
    ∷ refuses "1,2\r\n\n" 19
    ∷ refuses "1,2\r\n\r" 19
    ∷ refuses "1,2\r\n3,4\n" 19
    ∷ refuses "1,\"2\";3,4" 19
    ∷ refuses "1,2\r\r" 19
    ∷ refuses "1,2\n\n" 19
    ∷ refuses "1\r\n,2" 19
    ∷ refuses "1,2\r\n3" 19
    -- quotes out of place
    ∷ refuses "1\"2,3" 19
    ∷ refuses "\"1\"2,3" 19
    ∷ refuses "\"1\" ,2" 19
    ∷ refuses " \"1\",2" 19
    ∷ refuses "1,\"2\" " 19
    ∷ refuses "1, \"2\"" 19
    ∷ refuses "1,\"2\" \r\n" 19
    ∷ refuses "1\"\",2" 19
    ∷ refuses "\"\"1,2" 19
    ∷ refuses "1,\"2\"3" 19
    ∷ refuses "\"\\\"1\",2" 19
    ∷ refuses "\"1,2" 19
    ∷ refuses "1,\"2" 19
    ∷ refuses "1,\"2\"\"" 19
    ∷ refuses "1,\"2\r\n3,4\r\n" 19
    ∷ refuses "1,2\"" 19
    -- bytes outside the grammar, also between quotes
    ∷ refuses "1\t,2" 19
    ∷ refuses "\"1\t\",2" 19
    ∷ refuses "1;2" 19
    -- 0, 31, 127 and above, and a byte order mark
    ∷ refusing 3 4 (bytes_of "1,2" ++ 0 ∷ []) 19
    ∷ refusing 3 4 (49 ∷ 31 ∷ bytes_of ",2") 19
    ∷ refusing 3 4 (49 ∷ 127 ∷ bytes_of ",2") 19
    ∷ refusing 3 4 (34 ∷ 49 ∷ 127 ∷ bytes_of "\",2") 19
    ∷ refusing 3 4 (34 ∷ 49 ∷ 233 ∷ bytes_of "\",2") 19
    ∷ refusing 3 4 (239 ∷ 187 ∷ 191 ∷ bytes_of "1,2") 19
    ∷ []

-- so many bytes from b on
abbrev pub bytes_from : ℕ → ℕ → List ℕ
bytes_from b zero = []
bytes_from b (suc n) = b ∷ bytes_from (suc b) n

-- each of these bytes in a field, between quotes, and at the end of a record
abbrev pub strangers : List ℕ → List Example
strangers [] = []
strangers (b ∷ bs) =
    refusing 3 4 (49 ∷ b ∷ bytes_of ",2") 19
    ∷ refusing 3 4 (34 ∷ 49 ∷ b ∷ bytes_of "\",2") 19
    ∷ refusing 3 4 (bytes_of "1,2" ++ b ∷ []) 19
    ∷ strangers bs

-- every byte that is in no field
unfoldable pub strange : List Example
strange = strangers (bytes_from 0 10 ++ 11 ∷ 12 ∷ bytes_from 14 18 ++ bytes_from 127 129)

unfoldable pub sequences : List Example
sequences =
    -- the earliest bad record decides, and in one record 19
    refuses "x,1\r\n1" 20
    ∷ refuses "1\r\nx,1" 19
    ∷ refuses "1,2\r\nx,3\r\n4,5,6" 20
    ∷ refuses "1,2\r\n4,5,6\r\nx,3" 19
    ∷ refuses "x,1\r\n2,\"3" 20
    ∷ refuses "x,1,2" 19
    ∷ refuses "x,1\n" 19
    ∷ refuses "x,1\r" 19
    ∷ refuses "x,\"1" 19
    ∷ refuses "1,x,2" 19
    ∷ refuses "1,x\n" 19
    -- the count of workers comes first, the room last
    ∷ refusing 0 0 (bytes_of "1") 2
    ∷ refusing 17 9 (bytes_of "1,2") 2
    ∷ refusing 4294967297 9 (bytes_of "1,2") 2
    ∷ refusing 0 0 (bytes_of "x,1") 2
    ∷ refusing 0 0 (bytes_of "1,2") 2
    ∷ refusing 17 0 [] 2
    ∷ refusing 16 0 (bytes_of "x,1") 20
    ∷ refusing 16 0 (bytes_of "1") 19
    ∷ refusing 16 0 [] 19
    ∷ refusing 16 0 (bytes_of "1,2") 12
    ∷ refusing 1 1 (bytes_of "1,2\r\n3,4") 12
    ∷ refusing 1 1 (bytes_of "1,2\r\n3,4\r\nx,5") 20
    ∷ refusing 1 1 (bytes_of "1,2\r\n3,4\r\n5") 19
    ∷ dealing 1 2 (bytes_of "1,2\r\n3,4") 2 (1 ∷ 2 ∷ 0 ∷ 3 ∷ 4 ∷ 0 ∷ [])
    ∷ dealing 16 3 (bytes_of "1,2\r\n3,4") 2 (1 ∷ 2 ∷ 0 ∷ 3 ∷ 4 ∷ 1 ∷ [])
    ∷ []

abbrev pub AllSay : List Example → Type 0
AllSay [] = Unit {0}
AllSay (e ∷ es) = Says e × AllSay es

pub record ReadingsPromise : Type 0 where
  pub read : AllSay readings
  pub no_numbers : AllSay not_numbers
  pub no_records : AllSay not_records
  pub no_bytes : AllSay strange
  pub in_sequence_says : AllSay sequences
