-- The words of schema texts, as bytes.
use Rattle.std.specs.Prelude.{ℕ, List, [], ◌∷◌}

-- table
abbrev pub word_table : List ℕ
word_table = 116 ∷ (97 ∷ (98 ∷ (108 ∷ (101 ∷ []))))

-- column
abbrev pub word_column : List ℕ
word_column = 99 ∷ (111 ∷ (108 ∷ (117 ∷ (109 ∷ (110 ∷ [])))))

-- key
abbrev pub word_key : List ℕ
word_key = 107 ∷ (101 ∷ (121 ∷ []))

-- skip
abbrev pub word_skip : List ℕ
word_skip = 115 ∷ (107 ∷ (105 ∷ (112 ∷ [])))

-- unsigned
abbrev pub word_unsigned : List ℕ
word_unsigned = 117 ∷ (110 ∷ (115 ∷ (105 ∷ (103 ∷ (110 ∷ (101 ∷ (100 ∷ [])))))))

-- tinyint
abbrev pub word_tinyint : List ℕ
word_tinyint = 116 ∷ (105 ∷ (110 ∷ (121 ∷ (105 ∷ (110 ∷ (116 ∷ []))))))

-- smallint
abbrev pub word_smallint : List ℕ
word_smallint = 115 ∷ (109 ∷ (97 ∷ (108 ∷ (108 ∷ (105 ∷ (110 ∷ (116 ∷ [])))))))

-- mediumint
abbrev pub word_mediumint : List ℕ
word_mediumint = 109 ∷ (101 ∷ (100 ∷ (105 ∷ (117 ∷ (109 ∷ (105 ∷ (110 ∷ (116 ∷ []))))))))

-- int
abbrev pub word_int : List ℕ
word_int = 105 ∷ (110 ∷ (116 ∷ []))

-- bigint
abbrev pub word_bigint : List ℕ
word_bigint = 98 ∷ (105 ∷ (103 ∷ (105 ∷ (110 ∷ (116 ∷ [])))))

-- date
abbrev pub word_date : List ℕ
word_date = 100 ∷ (97 ∷ (116 ∷ (101 ∷ [])))

-- text
abbrev pub word_text : List ℕ
word_text = 116 ∷ (101 ∷ (120 ∷ (116 ∷ [])))

-- blob
abbrev pub word_blob : List ℕ
word_blob = 98 ∷ (108 ∷ (111 ∷ (98 ∷ [])))

-- timestamp
abbrev pub word_timestamp : List ℕ
word_timestamp = 116 ∷ (105 ∷ (109 ∷ (101 ∷ (115 ∷ (116 ∷ (97 ∷ (109 ∷ (112 ∷ []))))))))

-- datetime
abbrev pub word_datetime : List ℕ
word_datetime = 100 ∷ (97 ∷ (116 ∷ (101 ∷ (116 ∷ (105 ∷ (109 ∷ (101 ∷ [])))))))

-- varchar
abbrev pub word_varchar : List ℕ
word_varchar = 118 ∷ (97 ∷ (114 ∷ (99 ∷ (104 ∷ (97 ∷ (114 ∷ []))))))

-- varbinary
abbrev pub word_varbinary : List ℕ
word_varbinary = 118 ∷ (97 ∷ (114 ∷ (98 ∷ (105 ∷ (110 ∷ (97 ∷ (114 ∷ (121 ∷ []))))))))

-- decimal
abbrev pub word_decimal : List ℕ
word_decimal = 100 ∷ (101 ∷ (99 ∷ (105 ∷ (109 ∷ (97 ∷ (108 ∷ []))))))

-- char
abbrev pub word_char : List ℕ
word_char = 99 ∷ (104 ∷ (97 ∷ (114 ∷ [])))

-- binary
abbrev pub word_binary : List ℕ
word_binary = 98 ∷ (105 ∷ (110 ∷ (97 ∷ (114 ∷ (121 ∷ [])))))
